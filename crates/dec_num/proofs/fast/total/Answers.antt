use Rattle.std.proofs.Common.{◌≡◌, sym, to_z, of_z, w64, get_or, arith}
use Rattle.std.specs.Prelude.{pos}
use Rattle.std.proofs.lemmas.Int.{ints}
use Rattle.dec_num.specs.Sums.{sum_behind}
use Rattle.dec_num.proofs.PolynomialFacts.{sum_behind-goes_on}
use Rattle.dec_num.proofs.fast.total.Goals as goal

pub loop-coefficient-preserved : goal.loop-coefficient-preserved
loop-coefficient-preserved c =
    let next : to_z w64 (of_z w64 c.in_ok-next.next) ≡ c.in_ok-next.next = omega (arith, ints) in
    let more : to_z w64 (of_z w64 c.in_ok-next.more) ≡ c.in_ok-next.more = omega (arith, ints) in
    let item : to_z w64 (of_z w64 (get_or c.args.rest.now c.loop-coefficient.coefficient-index (pos 0))) ≡ get_or c.args.rest.now c.loop-coefficient.coefficient-index (pos 0) = omega (arith, ints) in
    let step = rw item at c.in_ok-next.ensures in
    record {
      value =
          rw (next, more)
          (sum_behind-goes_on (to_z w64 (of_z w64 c.args.raw)) (to_z w64 c.loop-coefficient.power-bits) (to_z w64 c.loop-coefficient.total-bits) c.in_ok-next.next c.in_ok-next.more c.args.rest.now
          c.loop-coefficient.coefficient-index (pos 0) (sum_behind (to_z w64 (of_z w64 c.args.raw)) (pos 1) (to_z w64 (of_z w64 c.args.first)) c.args.rest.now) c.loop-coefficient-test.true
          (sym step) c.loop-coefficient.invariant.value);
    }
