use Rattle.std.proofs.Common.{arith, drop, take}
use Rattle.mib_model.proofs.WordFacts.{same-numbers, AreOctets-word, length-word}
use Rattle.mib_model.proofs.words.are_alike_at.Goals as goal

pub returns : goal.returns
returns c =
    let at = c.args.at in
    let a = c.args.a.now in
    let b = c.args.b.now in
    rw (c.word.ensures, c.word-2.ensures) (same-numbers (take 8 (drop at a)) (take 8 (drop at b)) (length-word at a c.requires.a) (length-word at b c.requires.b)
    (AreOctets-word at a (λ i. omega (arith, c.type_inv.a i))) (AreOctets-word at b (λ i. omega (arith, c.type_inv.b i))))
