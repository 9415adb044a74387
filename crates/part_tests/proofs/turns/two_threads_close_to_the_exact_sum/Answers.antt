use Rattle.std.proofs.Common.{ℕ, ◌<◌, ap, subst, arith}
use Rattle.turn_cell.specs.Views.{times}
use Rattle.turn_cell.specs.Seats.{holdings_of}
use Rattle.turn_cell.proofs.Holdings.{times-split, times-below_one}
use Rattle.part_tests.proofs.turns.two_threads_close_to_the_exact_sum.Goals as goal

pub total-requires-clause-all : goal.total-requires-clause-all
total-requires-clause-all g c = λ n lt.
    let one = c.add_at_once-one.ensures.one n in
    let two = c.add_at_once-one.ensures.two n in
    let kept = ap (times n) c.split-two.ensures.kept in
    let handed = ap (times n) c.split-two.ensures.handed in
    let parts = times-split n (holdings_of c.in_ok-turn.one) in
    let all = ap (times n) c.in_ok-turn.ensures.numbers in
    let below : n < 2 = subst (λ m. n < m) c.in_ok-turn.ensures.callers lt in
    let once = times-below_one ℕ ℕ 2 n below in
    omega arith
