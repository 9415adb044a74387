use Rattle.std.proofs.Common.{◌≡◌, ◌<◌, ◌^◌, drop}
use Rattle.std.specs.Prelude.{pos, nat_abs}
use Rattle.dec_num.specs.Sums.{sum_behind}
use Rattle.dec_num.proofs.polynomial.total.Given as goal

abbrev pub invariant-loop-coefficient : goal.invariant-loop-coefficient
invariant-loop-coefficient l = record {
  value : sum_behind l.raw l.power l.total (drop l.coefficient-index l.rest) ≡ sum_behind l.raw (pos 1) l.fn.first l.rest;
  within : nat_abs l.total < 10 ^ 37;
}
