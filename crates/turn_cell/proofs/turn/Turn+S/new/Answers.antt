use Rattle.std.proofs.Common.{rules, sym, ap, ◌∙◌, ◌≡◌, arith}
use Rattle.turn_cell.specs.Views.{origin_of}
use Rattle.turn_cell.proofs.Shares.{begins_so}
use Rattle.turn_cell.proofs.turn.Turn+S.new.Goals as goal

pub new-requires-2 : goal.new-requires-2
new-requires-2 g c =
    let fits = c.ranges.callers.fits in let is : c.in-Ok.state.value ≡ c.args.state = search rules in
    begins_so _ _ _ _ _ _ c.in-Ok.state _ _ (search rules) (search rules) (omega arith) (ap g.S.Machine.state (is ∙ sym c.of.ensures))

pub returns-in-Ok-new-clause-seat : goal.returns-in-Ok-new-clause-seat
unfolding origin_of
returns-in-Ok-new-clause-seat g c = search rules
