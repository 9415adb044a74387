use Rattle.std.proofs.Common.{arith}
use Rattle.std.proofs.lemmas.List.{take_rest}
use Rattle.bit_field.proofs.LittleFacts.{little-none, little-more, little-fits, little-fits_all, octet_shifted}
use Rattle.bit_field.proofs.value.little_behind.Goals as goal

pub loop-i-init : goal.loop-i-init
loop-i-init c = record { value = little-none c.args.octets.now c.args.skip; within = omega arith }

pub overflow_add-value : goal.overflow_add-value
overflow_add-value c =
    let fits = little-fits_all c.loop-i.value c.number_from.result c.loop-i.i c.loop-i.invariant.within c.number_from.ensures.within (omega arith) in
    rw (octet_shifted c.number_from.result c.loop-i.i c.number_from.ensures.within (omega arith)) (omega (arith, fits))

pub loop-i-preserved : goal.loop-i-preserved
loop-i-preserved c =
    let octet = rw (c.from.ensures, c.from-in-loop-i.ensures, take_rest) at c.number_from.ensures.value in
    let shifted = octet_shifted c.number_from.result c.loop-i.i c.number_from.ensures.within (omega arith) in
    record {
      value = rw (shifted, c.loop-i.invariant.value) (little-more c.args.octets.now c.args.skip c.loop-i.i c.number_from.result octet);
      within = rw shifted (little-fits c.loop-i.value c.number_from.result c.loop-i.i c.loop-i.invariant.within c.number_from.ensures.within);
    }
