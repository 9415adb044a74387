use Rattle.std.proofs.Common.{arith}
use Rattle.bit_writer.proofs.PartFacts.{between-bit, least-most, powers}
use Rattle.bit_writer.proofs.part.ones_between.Goals as goal

pub overflow_sub-result-2 : goal.overflow_sub-result-2
overflow_sub-result-2 c =
    let these = powers c.args.first c.args.last c.requires in let bounds = least-most c.args.first c.args.last c.requires in omega (arith, these.0, these.1, bounds.1)

pub overflow_cast-result-3 : goal.overflow_cast-result-3
overflow_cast-result-3 c =
    let these = powers c.args.first c.args.last c.requires in
    let bounds = least-most c.args.first c.args.last c.requires in
    omega (arith, these.0, these.1, bounds.0, bounds.1, bounds.2)

pub returns : goal.returns
returns c = between-bit c.args.first c.args.last c.requires
