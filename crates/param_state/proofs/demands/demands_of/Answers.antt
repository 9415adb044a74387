use Rattle.std.proofs.Common.{List, false, subst, sym}
use Rattle.param_state.specs.declared.demands.Demand.{Demand}
use Rattle.param_state.specs.Demands.{AreNoted}
use Rattle.param_state.proofs.DemandFacts.{unasked-noted}
use Rattle.param_state.proofs.demands.demands_of.Goals as goal

pub returns : goal.returns
returns c =
    let params = c.args.params.now in
    let none = subst (λ (demands : List Demand). AreNoted (λ name. false) params demands) (sym c.in_ok-unasked.ensures) (unasked-noted params) in
    record { covers = λ name h. h; noted = c.note_all.ensures (λ name. false) none }
