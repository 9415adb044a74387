use Rattle.std.proofs.Common.{List, Option, ℕ, subst, sym}
use Rattle.memory_laws.specs.Alike.{is_on}
use Rattle.param_state.specs.Demands.{Notes}
use Rattle.param_state.proofs.demands.Noting.note_if.Goals as goal

pub returns-in-Some : goal.returns-in-Some
returns-in-Some c =
    subst (λ (name : Option (List ℕ)). Notes (λ other. is_on other name) c.args.params.now c.args.self.now.demands.items c.note.new.self.demands.items) (sym c.in-Some.is) c.note.ensures
