use Rattle.std.proofs.Common.{◌≡◌, ◌∙◌, to_z, of_z, get_or, arith}
use Rattle.std.specs.Int.{w128}
use Rattle.std.specs.Prelude.{pos}
use Rattle.std.proofs.lemmas.Int.{ints}
use Rattle.dec_num.specs.Sums.{sum_behind}
use Rattle.dec_num.proofs.PolynomialFacts.{sum_behind-stops, sum_behind-goes_on}
use Rattle.dec_num.proofs.polynomial.total.Goals as goal

pub returns-in_err-next-clause-value : goal.returns-in_err-next-clause-value
returns-in_err-next-clause-value c =
    let raw : to_z w128 (of_z w128 c.args.raw) ≡ c.args.raw = omega (arith, ints) in
    let first : to_z w128 (of_z w128 c.args.first) ≡ c.args.first = omega (arith, ints) in
    let item : to_z w128 (of_z w128 (get_or c.args.rest.now c.loop-coefficient.coefficient-index (pos 0))) ≡ get_or c.args.rest.now c.loop-coefficient.coefficient-index (pos 0) = omega (arith, ints) in
    c.from_residual.ensures ∙
    sum_behind-stops c.args.raw (to_z w128 c.loop-coefficient.power-bits) (to_z w128 c.loop-coefficient.total-bits) c.args.rest.now c.loop-coefficient.coefficient-index (pos 0)
    (sum_behind c.args.raw (pos 1) c.args.first c.args.rest.now) c.loop-coefficient-test.true (rw (raw, item) at c.in_err-next.ensures.value) (rw (raw, first) at c.loop-coefficient.invariant.value)

pub loop-coefficient-preserved : goal.loop-coefficient-preserved
loop-coefficient-preserved c =
    let raw : to_z w128 (of_z w128 c.args.raw) ≡ c.args.raw = omega (arith, ints) in
    let next : to_z w128 (of_z w128 c.in_ok-next.next) ≡ c.in_ok-next.next = omega (arith, ints) in
    let more : to_z w128 (of_z w128 c.in_ok-next.more) ≡ c.in_ok-next.more = omega (arith, ints) in
    let item : to_z w128 (of_z w128 (get_or c.args.rest.now c.loop-coefficient.coefficient-index (pos 0))) ≡ get_or c.args.rest.now c.loop-coefficient.coefficient-index (pos 0) = omega (arith, ints) in
    record {
      value =
          rw (next, more)
          (sum_behind-goes_on (to_z w128 (of_z w128 c.args.raw)) (to_z w128 c.loop-coefficient.power-bits) (to_z w128 c.loop-coefficient.total-bits) c.in_ok-next.next c.in_ok-next.more c.args.rest.now
          c.loop-coefficient.coefficient-index (pos 0) (sum_behind (to_z w128 (of_z w128 c.args.raw)) (pos 1) (to_z w128 (of_z w128 c.args.first)) c.args.rest.now) c.loop-coefficient-test.true
          (rw item at c.in_ok-next.ensures.value) c.loop-coefficient.invariant.value);
      within = rw more c.in_ok-next.ensures.within;
    }
