-- What objects that didn't fail tell.
use Rattle.std.proofs.Common.{◌≡◌, ℕ, Bool, true, false, List, Option, Some, IfSome, refl, subst, arith}
use Rattle.session.specs.Sources.{Files}
use Rattle.tm_io.specs.Causes.{HasRisen, RisesWhere}
use Rattle.tool_objects.specs.Calm.{HoldsCalm, IsCalm}
use Rattle.tool_objects.specs.Objects.{ShelfView}
use Rattle.tool_objects.specs.Told.{OfFile}

-- a count that stays as it was, below its end, didn't rise
pub not-failed : (before now : ℕ) → IsCalm before now → HasRisen before now → ⊥
not-failed before now calm failed = omega (arith, calm.same, calm.more, failed.1)

-- an object whose count didn't rise didn't fail
pub stood : (failed : Bool) (before now : ℕ) → IsCalm before now → RisesWhere failed before now → failed ≡ false
stood false before now calm counts = refl
stood true before now calm counts = absurd (not-failed before now calm counts)

-- what is said of a file of a shelf is said of it
pub of-file : {S : Type 0} (s : ShelfView S) (files : Files) (name : List ℕ) (found : Option (List ℕ)) → HoldsCalm s files → files name ≡ found → (P : Option (List ℕ) → Type 0) → OfFile s name P → P found
of-file s files name found calm is P said = subst P is (subst (λ (x : Option Files). IfSome x (λ f. P (f name))) calm.holds said)
