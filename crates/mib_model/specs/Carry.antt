-- What is kept where the edition changes from one packet to the next. [This profile.]
use Rattle.std.specs.Prelude.{ℕ, min, Bool, true, false, List, Option, Some, None, ◌&&◌, if◌then◌else◌}
use Rattle.std.specs.List.{find}
use Rattle.std.specs.Str.{bytes_eq}
use Rattle.std.specs.Cmp.Lexicographic.{pointwise}
use Rattle.mib_model.specs.declared.rows.OcfRow.{OcfRow}
use Rattle.mib_model.specs.declared.rows.PcfRow.{PcfRow}
use Rattle.mib_model.specs.Checks.{checks_of}
use Rattle.mib_model.specs.Database.{Database}
use Rattle.mib_model.specs.Kept.{Memory, nothing_kept}
use Rattle.mib_model.specs.Parameters.{parameter}
use Rattle.mib_model.specs.SameRows.{same_pcf, same_ocf, same_ocp}

-- the check of a parameter
abbrev pub check_of : Database → List ℕ → Option OcfRow
check_of db name = find (λ row. bytes_eq row.name name) db.ocf

-- whether a parameter is in both editions with the same row
abbrev pub stays : Option PcfRow → Option PcfRow → Bool
stays (Some old) (Some new) = same_pcf old new
stays old new = false

-- whether a check is in neither edition, or in both with the same row but for the number of checks
abbrev pub same_check : Option OcfRow → Option OcfRow → Bool
same_check None None = true
same_check (Some old) (Some new) = same_ocf old (record new { nbchck = old.nbchck })
same_check old new = false

-- what was kept of a name stays where its parameter, its check but for the number of checks, and its limits are the same
unfoldable pub is_carried : Database → Database → List ℕ → Bool
is_carried old new name =
    stays (parameter old.pcf name) (parameter new.pcf name) &&
    same_check (check_of old name) (check_of new name) &&
    pointwise same_ocp (checks_of old name) (checks_of new name)

-- a run is held to the new number of checks
abbrev pub run_for : Option OcfRow → ℕ → ℕ
run_for None run = run
run_for (Some row) run = min run row.nbchck

-- what is kept of all names under the new edition
unfoldable pub carry : Memory → Database → Database → Memory
carry memory old new name =
    if is_carried old new name then record (memory name) { run = run_for (check_of new name) (memory name).run } else nothing_kept
