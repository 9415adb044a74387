use Rattle.std.proofs.Common.{sym, arith}
use Rattle.mibtm_build.proofs.OperandFacts.{few-words, more-words}
use Rattle.mibtm_build.proofs.inputs.inputs_of.Goals as goal

pub returns-in-empty : goal.returns-in-empty
returns-in-empty c = sym (few-words c.args.words.now (let none = c.in-empty.len_below in omega (arith, none)))

pub returns-in-len1 : goal.returns-in-len1
returns-in-len1 c = sym (few-words c.args.words.now (let one = c.in-len1.len_below in omega (arith, one)))

pub returns-in_default : goal.returns-in_default
returns-in_default c = sym (more-words c.args.words.now (omega arith))
