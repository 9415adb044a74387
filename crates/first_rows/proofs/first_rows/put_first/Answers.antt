use Rattle.std.proofs.Common.{◌≡◌, ◌⊎◌, inl, inr, Bool, Some, sym, subst, ◌∙◌}
use Rattle.std.specs.Option.{option_eq}
use Rattle.first_rows.specs.ByNumbers.{IsAtHand, IsFirst}
use Rattle.first_rows.proofs.ByNumberFacts.{found-first}
use Rattle.first_rows.proofs.first_rows.put_first.Goals as goal

pub returns-in-Some-get : goal.returns-in-Some-get
returns-in-Some-get g c = λ rows are old held hand.
    let test : g.row.B-Key.Denot → g.row.B-Row.Denot → Bool = λ key row. option_eq g.B.Key.PartialEq.eq (g.B.By.key_of row) (Some key) in
    let first : g.row.B-Row.Denot = c.in-Some-get.first.now in
    let is : IsFirst test rows first =
    found-first g.B.Key.PartialEq.eq g.met.B.Key.Eq.laws g.B.By.key_of rows c.in-Some.key first (sym (are c.in-Some.key) ∙ sym c.in-Some-get.ensures.value) in
    either (IsAtHand c.args.numbered.now held) held first (IsFirst test rows) (old held) is (c.put.ensures held hand) where
      either : {R : Type 0} (Held : Type 0) (held row : R) (P : R → Type 0) → (Held → P held) → P row → Held ⊎ (held ≡ row) → P held
      either Held held row P old new (inl h) = old h
      either Held held row P old new (inr e) = subst P (sym e) new
