use Rattle.std.proofs.Common.{◌≡◌, ◌∙◌, sym, List, [], ◌∷◌, length, refl, arith, Bool, None}
use Rattle.std.specs.List.{find}
use Rattle.first_rows.proofs.first_rows.FirstRows.find.Goals as goal

none-of-none : {A : Type 0} (p : A → Bool) (xs : List A) → length xs ≡ 0 → None ≡ find p xs
none-of-none p [] is = refl
none-of-none p (x ∷ xs) is = absurd (omega (arith, is))

pub returns-then-self-eq0 : goal.returns-then-self-eq0
returns-then-self-eq0 g c = rw (← c.self.view_is) (none-of-none _ c.self.inside.rows (sym c.self.invariant.0 ∙ c.if-self-eq0.true))
