use Rattle.std.proofs.Common.{arith}
use Rattle.bit_field.proofs.EncodingFacts.{encoding_facts}
use Rattle.tm_build.proofs.numbers.fits_number.Goals as goal

pub overflow_sub-width : goal.overflow_sub-width
overflow_sub-width c = let facts = (encoding_facts c.args.shape c.width-width.ensures.encoding).0 c.requires in omega arith

pub power-half-requires : goal.power-half-requires
power-half-requires c = let facts = (encoding_facts c.args.shape c.width-width.ensures.encoding).0 c.requires in omega arith

pub power-requires : goal.power-requires
power-requires c = let facts = (encoding_facts c.args.shape c.width-width.ensures.encoding).0 c.requires in omega arith
