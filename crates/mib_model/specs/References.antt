-- Whether the row that a column refers to is there. [SCOS-2000 Database Import ICD, references between the tables; this profile.]
use Rattle.std.specs.Prelude.{ℕ, ℤ, pos, Bool, true, List, Option, Some, None, ◌==◌, ◌||◌, if◌then◌else◌}
use Rattle.std.specs.List.{list_any}
use Rattle.std.specs.Ordering.{int_eq}
use Rattle.std.specs.Str.{bytes_eq}
use Rattle.mib_model.specs.Database.{Database}

-- a pcf row of this name is there
abbrev pub has_parameter : Database → List ℕ → Bool
has_parameter db name = list_any (λ row. bytes_eq row.name name) db.pcf

-- a pid row of this SPID is there
abbrev pub has_packet : Database → ℕ → Bool
has_packet db spid = list_any (λ row. row.spid == spid) db.pid

-- a vpd row of this TPSD is there
abbrev pub has_structure : Database → ℤ → Bool
has_structure db tpsd = list_any (λ row. int_eq (pos row.tpsd) tpsd) db.vpd

-- a caf row of this name is there
abbrev pub has_points : Database → List ℕ → Bool
has_points db name = list_any (λ row. bytes_eq row.numbr name) db.caf

-- a txf row of this name is there
abbrev pub has_texts : Database → List ℕ → Bool
has_texts db name = list_any (λ row. bytes_eq row.numbr name) db.txf

-- an mcf row of this name is there
abbrev pub has_polynomial : Database → List ℕ → Bool
has_polynomial db name = list_any (λ row. bytes_eq row.ident name) db.mcf

-- an lgf row of this name is there
abbrev pub has_logarithm : Database → List ℕ → Bool
has_logarithm db name = list_any (λ row. bytes_eq row.ident name) db.lgf

-- an ocf row of this name is there
abbrev pub has_check : Database → List ℕ → Bool
has_check db name = list_any (λ row. bytes_eq row.name name) db.ocf

-- a curve of a category: texts for `S`; points, a polynomial or a logarithm for `N`; and `T` needs none
abbrev pub has_curve : Database → ℕ → List ℕ → Bool
has_curve db categ name =
    if categ == 83 then has_texts db name
    else if categ == 84 then true
    else has_points db name || has_polynomial db name || has_logarithm db name

-- a reference that may be missing
abbrev pub if_given : Option (List ℕ) → (List ℕ → Bool) → Bool
if_given None holds = true
if_given (Some name) holds = holds name
