use Rattle.std.proofs.Common.{◌≡◌, ◌∙◌, get_or, to_z, of_z, w64, arith}
use Rattle.std.specs.Int.{w128}
use Rattle.std.specs.Prelude.{pos}
use Rattle.std.proofs.lemmas.Int.{ints}
use Rattle.dec_num.proofs.WordSumFacts.{all-four}
use Rattle.dec_num.proofs.fast.words.Goals as goal

pub returns : goal.returns
returns c =
    let rest = c.args.rest.now in
    let raw0 : to_z w128 (of_z w128 (get_or rest 0 (pos 0))) ≡ get_or rest 0 (pos 0) = omega (arith, ints) in
    let word0 : to_z w64 (of_z w64 c.in_ok-word.field-0) ≡ c.in_ok-word.field-0 = omega (arith, ints) in
    let raw1 : to_z w128 (of_z w128 (get_or rest 1 (pos 0))) ≡ get_or rest 1 (pos 0) = omega (arith, ints) in
    let word1 : to_z w64 (of_z w64 c.in_ok-word-2.field-0) ≡ c.in_ok-word-2.field-0 = omega (arith, ints) in
    let raw2 : to_z w128 (of_z w128 (get_or rest 2 (pos 0))) ≡ get_or rest 2 (pos 0) = omega (arith, ints) in
    let word2 : to_z w64 (of_z w64 c.in_ok-word-3.field-0) ≡ c.in_ok-word-3.field-0 = omega (arith, ints) in
    let raw3 : to_z w128 (of_z w128 (get_or rest 3 (pos 0))) ≡ get_or rest 3 (pos 0) = omega (arith, ints) in
    let word3 : to_z w64 (of_z w64 c.in_ok-word-4.field-0) ≡ c.in_ok-word-4.field-0 = omega (arith, ints) in
    rw (word0 ∙ c.in_ok-word.ensures ∙ raw0, word1 ∙ c.in_ok-word-2.ensures ∙ raw1, word2 ∙ c.in_ok-word-3.ensures ∙ raw2, word3 ∙ c.in_ok-word-4.ensures ∙ raw3)
    (all-four rest (pos 0) c.told-rest)
