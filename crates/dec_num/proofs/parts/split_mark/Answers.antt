use Rattle.std.proofs.Common.{refl}
use Rattle.mib_model.specs.Decimals.{is_exponent_mark}
use Rattle.dec_num.proofs.DigitFacts.{found, not_found}
use Rattle.dec_num.proofs.parts.split_mark.Goals as goal

pub returns-in-Some-clause-marked : goal.returns-in-Some-clause-marked
returns-in-Some-clause-marked c = (λ some. found is_exponent_mark c.args.text.now c.in-Some.at c.in-Some.ensures, λ some. refl)

pub returns-in-None-clause-marked : goal.returns-in-None-clause-marked
returns-in-None-clause-marked c = let none = not_found is_exponent_mark c.args.text.now c.in-None.ensures in (λ some. cc, λ some. cc none)
