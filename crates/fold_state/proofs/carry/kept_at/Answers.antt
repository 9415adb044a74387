use Rattle.std.proofs.Common.{ap, arith, sym}
use Rattle.std.specs.Arc.{arc_value}
use Rattle.fold_state.specs.Boards.{memory_of}
use Rattle.param_state.proofs.NamedFacts.{plan-there}
use Rattle.fold_state.proofs.FinishFacts.{plan-found}
use Rattle.param_state.proofs.ValueFacts.{slice-found}
use Rattle.fold_state.proofs.carry.kept_at.Goals as goal

pub returns : goal.returns
returns c = λ before after plans made was at.
    let name = c.args.plan.now.pcf.name in
    let s = c.deref.result.now in
    let is = plan-there c.args.from.now c.args.at (arc_value c.plan.result.now) s c.deref.ensures c.plan.ensures in
    let found = plan-found c.args.from.now c.args.old.now name c.args.at s made at is in
    c.carried.ensures before after (memory_of c.args.old.now) name (c.slot.ensures name at) (slice-found before c.args.from.now name s plans found) was
