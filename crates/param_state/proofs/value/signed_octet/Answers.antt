use Rattle.std.proofs.Common.{refl}
use Rattle.mib_model.specs.Encodings.{encoding_of, type_of}
use Rattle.mib_model.specs.declared.shape.Endian.TheVariants.{B}
use Rattle.param_state.proofs.value.signed_octet.Goals as goal

pub new-requires : goal.new-requires
unfolding encoding_of type_of
new-requires c = (4, 4, B, refl)
