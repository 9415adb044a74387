use Rattle.std.proofs.Common.{◌∙◌}
use Rattle.dec_num.proofs.BaseFacts.{octal-in_base}
use Rattle.dec_num.proofs.whole.octal_value.Goals as goal

pub returns-clause-value : goal.returns-clause-value
returns-clause-value c = c.value_in.ensures.value ∙ octal-in_base c.args.digits.now c.requires.digits
