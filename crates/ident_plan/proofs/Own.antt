-- Rows of pic, none of which is of an APID of its own.
use Rattle.std.proofs.Common.{◌≡◌, ℕ, false, List, [], ◌∷◌, Some, None, refl, arith}
use Rattle.std.specs.List.{find, list_any}
use Rattle.mib_model.specs.declared.rows.PicRow.{PicRow}
use Rattle.mib_model.specs.Match.{is_criterion}
use Rattle.ident_plan.specs.Rows.{has_apid}

-- no row of no APID is a criterion of an APID
not_of : (row : PicRow) (service subtype apid : ℕ) → has_apid row ≡ false → is_criterion service subtype (Some apid) row ≡ false
not_of row service subtype apid none = grind arith

pub none_own : (pics : List PicRow) (service subtype apid : ℕ) → list_any has_apid pics ≡ false → find (is_criterion service subtype (Some apid)) pics ≡ None
none_own [] service subtype apid none = refl
none_own (row ∷ pics) service subtype apid none = grind (arith, not_of row service subtype apid, none_own pics service subtype apid)
