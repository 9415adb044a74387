-- The row that a parameter has in a database. [This profile.]
use Rattle.std.specs.Prelude.{unwrap_or}
use Rattle.std.specs.List.{find}
use Rattle.std.specs.Str.{bytes_eq}
use Rattle.mib_model.specs.declared.database.Database.{Database}
use Rattle.mib_model.specs.declared.rows.PcfRow.{PcfRow}

-- the first row of the name of a row in a database; the row where there is none
abbrev pub row_now : Database → PcfRow → PcfRow
row_now db row = unwrap_or (find (λ other. bytes_eq other.name row.name) db.pcf) row
