use Rattle.std.proofs.Common.{◌≡◌, ◌∙◌, ℕ, ◌+◌, ◌*◌, [], ◌∷◌, None, Some, ap, subst, arith}
use Rattle.tm_build.proofs.LayFacts.{lays-next, lays-row}
use Rattle.tm_build.specs.Lays.{Lays}
use Rattle.tm_build.proofs.layout.lay_occurrences.Goals as goal

pub returns-in-Some-clause-lays : goal.returns-in-Some-clause-lays
returns-in-Some-clause-lays g c =
    let source = g.N.Numbers.source c.args.numbers.now in
    let row = c.args.row.now in
    let place : c.bit_of-at.result ≡ 8 * row.offby + row.offbi + c.loop-k.k * row.lgocc = c.bit_of-at.ensures ∙ ap (λ (n : ℕ). n + c.loop-k.k * row.lgocc) c.first_bit-first.ensures.value in
    let here = subst (λ (n : ℕ). Lays source (record { name = row.name; at = n; shape = c.args.shape } ∷ []) (Some c.in-Some.why) c.loop-k.values c.lay_place.new.values) place c.in-Some.ensures.lays in
    lays-row source row c.args.shape (c.loop-k.k + 1) row.nbocc c.in-Some.why c.args.values.now c.lay_place.new.values (omega (arith, c.loop-k-test.true))
    (lays-next source row c.args.shape c.loop-k.k (Some c.in-Some.why) c.args.values.now c.loop-k.values c.lay_place.new.values c.loop-k.invariant.lays here)

pub loop-k-preserved : goal.loop-k-preserved
loop-k-preserved g c =
    let source = g.N.Numbers.source c.args.numbers.now in
    let row = c.args.row.now in
    let place : c.bit_of-at.result ≡ 8 * row.offby + row.offbi + c.loop-k.k * row.lgocc = c.bit_of-at.ensures ∙ ap (λ (n : ℕ). n + c.loop-k.k * row.lgocc) c.first_bit-first.ensures.value in
    let here = subst (λ (n : ℕ). Lays source (record { name = row.name; at = n; shape = c.args.shape } ∷ []) None c.loop-k.values c.lay_place.new.values) place c.in_default.ensures.lays in
    record {
      lays = lays-next source row c.args.shape c.loop-k.k None c.args.values.now c.loop-k.values c.lay_place.new.values c.loop-k.invariant.lays here;
      slots = c.lay_place.ensures.stays.slots;
      used = c.lay_place.ensures.stays.used;
      borrow = c.lay_place.ensures.stays.borrow ∙ c.loop-k.invariant.borrow;
    }
