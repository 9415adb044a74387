use Rattle.std.proofs.Common.{arith}
use Rattle.record_text.proofs.ShapeFacts.{real-most}
use Rattle.record_text.proofs.raw.real_digits.Goals as goal

pub overflow_cast-result : goal.overflow_cast-result
overflow_cast-result c = let most = real-most c.args.shape c.width.ensures.encoding c.requires in omega arith

pub returns-clause-most : goal.returns-clause-most
returns-clause-most c = let most = real-most c.args.shape c.width.ensures.encoding c.requires in omega arith

pub returns-clause-width : goal.returns-clause-width
returns-clause-width c = let most = real-most c.args.shape c.width.ensures.encoding c.requires in omega arith
