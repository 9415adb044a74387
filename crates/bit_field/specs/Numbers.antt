-- Sorts whose values have a number. [This profile.]
use Rattle.std.specs.Prelude.{Bool, true, false}
use Rattle.mib_model.specs.declared.shape.Sort.{Sort}
use Rattle.mib_model.specs.declared.shape.Sort.TheVariants.{Unsigned, Signed}

-- whether a sort's values have a number: unsigned and signed integers
abbrev pub has_number : Sort → Bool
has_number Unsigned = true
has_number Signed = true
has_number other = false
