use Rattle.std.proofs.Common.{◌∙◌, sym, arith}
use Rattle.std.proofs.lemmas.Bool.Decides.{nat_tests}
use Rattle.std.specs.Arc.{arc_value}
use Rattle.fold_state.proofs.BoardFacts.{place-within}
use Rattle.param_state.proofs.NamedFacts.{plan-there}
use Rattle.fold_state.proofs.FinishFacts.{plan-found, plan-within}
use Rattle.param_state.proofs.ValueFacts.{slice-found}
use Rattle.fold_state.proofs.board.Board.finish_by.Goals as goal

pub returns-then-seat-len-clause-finished : goal.returns-then-seat-len-clause-finished
returns-then-seat-len-clause-finished c = λ db plans made at raw.
    let within = plan-within c.args.params.now c.args.self.now c.args.value.now.name c.args.seat made at in
    absurd (omega (arith, within, c.len.ensures.count, c.if-seat-len.true))

pub returns-then-not-has_seat-clause-finished : goal.returns-then-not-has_seat-clause-finished
returns-then-not-has_seat-clause-finished c = λ db plans made at raw.
    let within = place-within c.args.self.now c.args.value.now.name c.args.seat at in
    let past = sym c.has_seat.ensures ∙ c.if-not-has_seat.true in
    absurd (grind (arith, nat_tests, within, past))

pub returns-clause-finished : goal.returns-clause-finished
returns-clause-finished c = λ db plans made at raw.
    let name = c.args.value.now.name in
    let is = plan-there c.args.params.now c.args.seat (arc_value c.plan.result.now) c.deref.result.now c.deref.ensures c.plan.ensures in
    let found = plan-found c.args.params.now c.args.self.now name c.args.seat c.deref.result.now made at is in
    c.finish_at.ensures.finished db (slice-found db c.args.params.now name c.deref.result.now plans found) at raw
