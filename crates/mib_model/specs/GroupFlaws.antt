-- The rules of soundness for the rows of structures: their groups, choices and references.
-- [SCOS-2000 Database Import ICD, vpd; the rules are this profile's.]
use Rattle.std.specs.Prelude.{true, ℕ, ◌+◌, pos, Bool, false, List, [], ◌∷◌, length, take, filter, Option, Some, None, nat_lt, nat_le, ◌==◌, ◌&&◌, ◌||◌, not}
use Rattle.std.specs.List.{list_any, enumerate_from}
use Rattle.mib_model.specs.declared.fault.MibCode.TheVariants.{BadType, Group}
use Rattle.mib_model.specs.declared.rows.PcfRow.{PcfRow}
use Rattle.mib_model.specs.declared.rows.VpdRow.{VpdRow}
use Rattle.mib_model.specs.declared.rows.Row.TheVariants as row
use Rattle.mib_model.specs.Database.{Database}
use Rattle.mib_model.specs.Encodings.{Encoding}
use Rattle.mib_model.specs.Flaws.{Rule, flaw_if, twice, missing}
use Rattle.mib_model.specs.Kept.{has_number}
use Rattle.mib_model.specs.Parameters.{parameter, is_measured, parameter_encoding}
use Rattle.mib_model.specs.References.{has_parameter}
use Rattle.mib_model.specs.Structures.{structure, is_yes}

-- whether a parameter is there and isn't measured
abbrev pub is_unmeasured : Option PcfRow → Bool
is_unmeasured None = false
is_unmeasured (Some r) = not (is_measured r)

-- whether an encoding is known and its values have numbers
abbrev pub counts_by : Option Encoding → Bool
counts_by None = false
counts_by (Some e) = has_number e.sort

-- whether a parameter's values have numbers; nothing is asked where there is no parameter
abbrev pub counts : Option PcfRow → Bool
counts None = true
counts (Some r) = counts_by (parameter_encoding r)

-- whether a row has a group
abbrev pub has_group : VpdRow → Bool
has_group r = not (r.grpsize == 0)

-- whether a row has more than one of a choice, a reference and a group
abbrev pub does_too_much : VpdRow → Bool
does_too_much r =
    (is_yes r.choice && is_yes r.pidref) || (is_yes r.choice && has_group r) || (is_yes r.pidref && has_group r)

-- whether a row has a fixed repetition above 0 and no group that it would repeat
abbrev pub repeats_nothing : VpdRow → Bool
repeats_nothing r = not (r.fixrep == 0) && not (has_group r)

-- whether a row has a choice, a reference or a counted group, for which its value must have a number
abbrev pub needs_number : VpdRow → Bool
needs_number r = is_yes r.choice || is_yes r.pidref || (has_group r && (r.fixrep == 0))

-- the place of a row in its structure, from 0: by POS, and of equal ones by the file
abbrev pub place_of : Database → List VpdRow → VpdRow → ℕ
place_of db earlier r =
    length (filter (λ o. (r.tpsd == o.tpsd) && nat_lt o.pos r.pos) db.vpd) +
    length (filter (λ o. (r.tpsd == o.tpsd) && (r.pos == o.pos)) earlier)

-- whether a group of so many rows behind a place passes the end of a group in which the place stands
abbrev pub passes_group : ℕ → ℕ → ℕ × VpdRow → Bool
passes_group place size outer = nat_le place (outer.0 + outer.1.grpsize) && nat_lt (outer.0 + outer.1.grpsize) (place + size)

-- whether such a group passes the last row of the structure, or the end of a group in which it stands
abbrev pub passes_end : List VpdRow → ℕ → ℕ → Bool
passes_end rows place size =
    nat_lt (length rows) (place + size + 1) || list_any (passes_group place size) (enumerate_from 0 (take place rows))

-- whether a row's group, choice or reference breaks a rule
abbrev pub is_bad_group : Database → List VpdRow → VpdRow → Bool
is_bad_group db earlier r =
    does_too_much r || repeats_nothing r || passes_end (structure db (pos r.tpsd)) (place_of db earlier r) r.grpsize ||
    (needs_number r && not (counts (parameter db.pcf r.name)))

-- the rules of vpd
abbrev pub vpd_rules : Database → List (Rule VpdRow)
vpd_rules db =
    twice row.Vpd ∷
    (λ earlier r. missing ((3, has_parameter db r.name) ∷ [])) ∷
    (λ earlier r. flaw_if BadType (is_unmeasured (parameter db.pcf r.name))) ∷
    (λ earlier r. flaw_if Group (is_bad_group db earlier r)) ∷ []
