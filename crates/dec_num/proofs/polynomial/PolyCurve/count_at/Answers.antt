use Rattle.std.proofs.Common.{◌≡◌, ◌∙◌, List, ap, to_z, of_z, w64, arith}
use Rattle.std.specs.Int.{w128}
use Rattle.std.proofs.lemmas.Int.{ints}
use Rattle.dec_num.specs.Narrow.{or_over}
use Rattle.dec_num.proofs.WordSumFacts.{words-some, sum-some, sum-none}
use Rattle.mib_model.specs.declared.number.Dec.{Dec}
use Rattle.mib_model.specs.Polynomials.{polynomial}
use Rattle.dec_num.proofs.polynomial.PolyCurve.count_at.Goals as goal

pub returns-in_err-sum_of-in-None : goal.returns-in_err-sum_of-in-None
returns-in_err-sum_of-in-None c =
    let decs = c.self.inside.decs.value in
    let raw : to_z w128 (of_z w128 c.args.raw) ≡ c.args.raw = omega (arith, ints) in
    let scaled = rw c.self.invariant.0 at c.self.invariant.1 in
    ap or_over c.from_residual.ensures ∙
    (sum-none decs c.args.raw c.self.inside.scaled scaled (rw raw at c.in_err-sum_of-in-None.ensures.value) ∙ ap (λ (ds : List Dec). polynomial ds c.args.raw) c.self.view_is)

pub returns-in-Some : goal.returns-in-Some
returns-in-Some c =
    let decs = c.self.inside.decs.value in
    let raw : to_z w128 (of_z w128 c.args.raw) ≡ c.args.raw = omega (arith, ints) in
    let word : to_z w64 (of_z w64 c.in-Some.sum) ≡ c.in-Some.sum = omega (arith, ints) in
    let sum : to_z w128 (of_z w128 c.in-Some.sum) ≡ c.in-Some.sum = omega (arith, ints) in
    let scaled = rw c.self.invariant.0 at c.self.invariant.1 in
    (ap or_over (rw (c.from.ensures, word, sum, c.self.invariant.0) at c.to_count.ensures)) ∙
    (words-some decs c.args.raw c.self.inside.words c.self.inside.scaled c.in-Some.sum scaled c.self.invariant.2 (rw raw at c.in-Some.ensures) ∙
    ap (λ (ds : List Dec). polynomial ds c.args.raw) c.self.view_is)

pub returns-in_ok-sum_of-in-None : goal.returns-in_ok-sum_of-in-None
returns-in_ok-sum_of-in-None c =
    let decs = c.self.inside.decs.value in
    let raw : to_z w128 (of_z w128 c.args.raw) ≡ c.args.raw = omega (arith, ints) in
    let sum : to_z w128 (of_z w128 c.in_ok-sum_of-in-None.field-0) ≡ c.in_ok-sum_of-in-None.field-0 = omega (arith, ints) in
    let scaled = rw c.self.invariant.0 at c.self.invariant.1 in
    (ap or_over (rw (sum, c.self.invariant.0) at c.to_count-in-None.ensures)) ∙
    (sum-some decs c.args.raw c.self.inside.scaled c.in_ok-sum_of-in-None.field-0 scaled (rw raw at c.in_ok-sum_of-in-None.ensures.value) ∙
    ap (λ (ds : List Dec). polynomial ds c.args.raw) c.self.view_is)
