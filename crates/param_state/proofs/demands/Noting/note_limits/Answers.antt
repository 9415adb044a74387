use Rattle.memory_laws.specs.Alike.{is_on}
use Rattle.param_state.proofs.DemandFacts.{notes-all, notes-next}
use Rattle.param_state.proofs.demands.Noting.note_limits.Goals as goal

pub loop-ocp-preserved : goal.loop-ocp-preserved
loop-ocp-preserved c =
    notes-next (λ name row. is_on name row.rlchk) c.args.params.now c.args.ocps.now c.loop-ocp.ocp-index c.ocp-item.result c.args.self.now.demands.items c.loop-ocp.self.demands.items
    c.note_if.new.self.demands.items c.loop-ocp-test.true c.ocp-item.is c.loop-ocp.invariant c.note_if.ensures

pub returns : goal.returns
returns c =
    notes-all (λ name row. is_on name row.rlchk) c.args.params.now c.args.ocps.now c.loop-ocp.ocp-index c.args.self.now.demands.items c.loop-ocp.self.demands.items c.loop-ocp-test.false c.loop-ocp.invariant
