use Rattle.std.proofs.Common.{sym, ap, ◌∙◌}
use Rattle.std.specs.Prelude.{option_and_then}
use Rattle.mib_model.specs.Encodings.{ordered, encoding_of}
use Rattle.bit_field.proofs.encoding.shape_of.Goals as goal

pub new-requires : goal.new-requires
unfolding encoding_of
new-requires c = (c.args.ptc, c.args.pfc, c.args.endian, ap (option_and_then (ordered c.args.endian)) (sym c.in_ok-sort.ensures) ∙ sym c.in_ok-order.ensures)
