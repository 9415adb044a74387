use Rattle.std.proofs.Common.{ℕ, leb, cond, bit_or, refl, arith}
use Rattle.std.proofs.lemmas.Simd.{zip2_splat, length-chunk}
use lib.Lanes.{chunk}
use Rattle.line_text.proofs.StandFacts.{joined, splat_is, stand-lanes}
use Rattle.line_text.proofs.fast.stand.eight_stand.Goals as goal

pub returns : goal.returns
returns c =
    let v = chunk c.args.at 8 c.args.octets.now in
    let long = length-chunk c.args.at 8 c.args.octets.now c.requires in
    let from_space = joined (λ a b. cond (leb a b) 255 0) _ _ v (splat_is v 8 95 long) (zip2_splat {Y = ℕ} _ v 8 32 long) in
    let quotes = joined bit_or _ _ v from_space (zip2_splat {Y = ℕ} _ v 8 34 long) in
    stand-lanes _ c.args.octets.now c.args.at 8 _ c.requires (omega arith) c.type_inv.octets (joined bit_or _ _ v quotes (zip2_splat {Y = ℕ} _ v 8 92 long)) refl
