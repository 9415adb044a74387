use Rattle.std.proofs.Common.{arith, ◌≤◌, ◌^◌, ◌+◌, length, lit<}
use Rattle.std.proofs.Math.Nat.{pow-le-pow_right}
use Rattle.dec_num.proofs.read.digits_in_two.Goals as goal

pub returns-clause-small : goal.returns-clause-small
returns-clause-small c =
    let bound : 10 ^ (length c.args.whole.now + length c.args.fraction.now) ≤ 10 ^ 17 = pow-le-pow_right (lit< tt) c.requires.short in
    omega (arith, bound, c.digits_behind.ensures.within)
