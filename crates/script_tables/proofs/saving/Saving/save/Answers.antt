use Rattle.std.proofs.Common.{◌∙◌, ◌∷◌, ◌++◌, [], List, ap, arith, refl, subst}
use Rattle.mib_keys.specs.Answers.{Names}
use Rattle.mib_keys.specs.declared.fault.SoundFault.{SoundFault}
use Rattle.mib_model.specs.declared.database.Database.{Database}
use Rattle.run_model.specs.DeskLines as Lines
use Rattle.script_tables.proofs.SavingFacts.{saves, stays-full, stays-unsound}
use Rattle.script_tables.specs.Savings.{Makes, Saving}
use Rattle.script_tables.proofs.saving.Saving.save.Goals as goal

pub returns-in-Err-Mib : goal.returns-in-Err-Mib
returns-in-Err-Mib c =
    subst (λ (s : Saving). Makes Lines.Save s s) c.self.view_is
    (stays-unsound (record { draft = c.self.inside.draft; saved = c.self.inside.saved.items }) c.in-Err-Mib.field-0-0
    (subst (λ (f : SoundFault). Names f c.self.inside.draft) c.in-Err-Mib.field-0-is c.in-Err-Mib.ensures))

pub returns-in_ok-push : goal.returns-in_ok-push
returns-in_ok-push c =
    let new : Saving = record { draft = c.self.inside.draft; saved = c.push.new.self.items } in
    subst (λ (s : Saving). Makes Lines.Save s new) c.self.view_is
    (saves (record { draft = c.self.inside.draft; saved = c.self.inside.saved.items }) new c.in-Ok.ensures (omega (arith, c.if-len-lt-EDITIONS_MOST.true, c.len.ensures)) refl
    (c.in_ok-push.ensures.items ∙ ap (λ (db : Database). c.self.inside.saved.items ++ db ∷ []) c.in_ok-copy.ensures))

pub returns-else-len-lt-EDITIONS_MOST : goal.returns-else-len-lt-EDITIONS_MOST
returns-else-len-lt-EDITIONS_MOST c =
    let old : Saving = record { draft = c.self.inside.draft; saved = c.self.inside.saved.items } in
    subst (λ (s : Saving). Makes Lines.Save s s) c.self.view_is
    (stays-full old old c.in-Ok.ensures (omega (arith, c.if-len-lt-EDITIONS_MOST.false, c.len.ensures)) refl)
