use Rattle.packet_jobs.proofs.Common.{◌∙◌, ap, List, ℕ, sym, take}
use Rattle.edition_plans.specs.Params.{param_slices}
use Rattle.fold_state.proofs.EnterFacts.{any-demanded}
use Rattle.param_state.specs.Demands.{any_name}
use Rattle.packet_jobs.proofs.working.draw_in.Goals as goal

pub returns-clause-drawn : goal.returns-clause-drawn
returns-clause-drawn g c = λ ok s of.
    let slices = param_slices (g.P.Structures.tables c.args.plans.now) in
    let packet = of.packet ∙ ap (λ (l : List ℕ). take c.args.cell.now.octets l) (sym c.slice.ensures) in
    c.draw_packet.ensures ok any_name s (any-demanded slices) (record { number = of.number; packet = packet; tables = of.tables })
