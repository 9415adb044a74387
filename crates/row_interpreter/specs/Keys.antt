-- The keys by which rows are searched. [This profile.]
use Rattle.std.specs.Prelude.{ℤ, pos, option_map, ◌&&◌, not, Option, None, if◌then◌else◌}
use Rattle.mib_model.specs.declared.rows.PcfRow.{PcfRow}
use Rattle.mib_model.specs.Parameters.{is_measured}
use Rattle.mib_model.specs.Structures.{is_deduced}

-- the number of a measured parameter that isn't deduced
abbrev pub number_key : PcfRow → Option ℤ
number_key row = if is_measured row && not (is_deduced row) then option_map pos row.pid else None
