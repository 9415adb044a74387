use Rattle.std.proofs.Common.{◌≡◌, ◌∙◌, ◌-◌, ℕ, ap, arith, get_or, length, refl, subst}
use Rattle.std.proofs.lemmas.List.{get_or_read}
use Rattle.mib_model.specs.Database.{no_rows}
use Rattle.run_model.specs.DeskLines as Lines
use Rattle.script_tables.proofs.SavingFacts.{drops}
use Rattle.script_tables.specs.Savings.{Makes, Saving}
use Rattle.script_tables.proofs.saving.Saving.restore.Goals as goal

pub returns : goal.returns
returns c =
    let old : Saving = record { draft = c.self.inside.draft; saved = c.self.inside.saved.items } in
    let new : Saving = record { draft = c.in_ok-self-inside.field-0; saved = c.self.inside.saved.items } in
    let last = get_or_read c.self.inside.saved.items _ _ (omega arith) c.index.ensures no_rows in
    let place : c.len.result - 1 ≡ length c.self.inside.saved.items - 1 = omega (arith, c.len.ensures) in
    let newest = ap (λ (n : ℕ). get_or c.self.inside.saved.items n no_rows) place in
    subst (λ (s : Saving). Makes Lines.Drop s new) c.self.view_is (drops old new (c.in_ok-self-inside.ensures ∙ (last ∙ newest)) refl)
