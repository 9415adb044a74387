use Rattle.std.proofs.Common.{ap, arith}
use Rattle.turn_cell.specs.Views.{times}
use Rattle.turn_cell.proofs.Holdings.{times-append}
use Rattle.part_tests.proofs.turns.total.Goals as goal

pub close-total-requires-clause-all : goal.close-total-requires-clause-all
close-total-requires-clause-all c = λ n lt none.
    let both = ap (times n) c.join.ensures.numbers in let sum = times-append n c.args.seat.me.0.holdings c.args.other.me.0.holdings in let one = c.requires.all n lt in
    omega arith
