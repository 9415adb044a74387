use Rattle.std.proofs.Common.{◌≡◌, ◌+◌, ◌-◌, ◌*◌, ◌/◌, ◌∙◌, ap, sym, arith, drop, length, take, ℕ, List, bytes_eq}
use Rattle.std.proofs.lemmas.Bool.Decides.{Decides-eqb}
use Rattle.mib_model.proofs.WordFacts.{same-fronts, same-rests, same-wholes, slice-to-end}
use Rattle.mib_model.proofs.words.are_alike.Goals as goal

pub loop-k-preserved : goal.loop-k-preserved
loop-k-preserved c =
    let k = c.loop-k.k in
    let same = same-fronts (8 * k) c.args.a.now c.args.b.now c.loop-k.invariant (sym (c.if-not-are_alike_at.ensures)) in
    let next : 8 * k + 8 ≡ 8 * (k + 1) = omega arith in
    ap (λ (n : ℕ). take n c.args.a.now) (sym next) ∙ same ∙ ap (λ (n : ℕ). take n c.args.b.now) next

pub returns-then-rest-a : goal.returns-then-rest-a
returns-then-rest-a c =
    let k = c.loop-k.k in
    let whole : 8 * k ≡ length c.args.a.now = omega (arith, c.if-rest-a.true, c.loop-k-test.false, c.loop-k.auto.k-end) in
    (Decides-eqb _ _).1 c.if-rest-a.true ∙ sym (same-wholes (8 * k) c.args.a.now c.args.b.now c.loop-k.invariant whole c.requires)

pub returns-else-rest-a : goal.returns-else-rest-a
returns-else-rest-a c =
    let k = c.loop-k.k in
    let rest : 8 * k ≡ length c.args.a.now / 8 * 8 = omega (arith, c.loop-k-test.false, c.loop-k.auto.k-end) in
    let n = length c.args.a.now / 8 * 8 in
    c.eq.ensures ∙ ap (λ (l : List ℕ). bytes_eq l (take (length c.args.b.now - n) (drop n c.args.b.now))) (slice-to-end n c.args.a.now)
    ∙ ap (λ (l : List ℕ). bytes_eq (drop n c.args.a.now) l) (slice-to-end n c.args.b.now) ∙ ap (λ (n : ℕ). bytes_eq (drop n c.args.a.now) (drop n c.args.b.now)) (sym rest) ∙ same-rests (8 * k) c.args.a.now c.args.b.now c.loop-k.invariant
