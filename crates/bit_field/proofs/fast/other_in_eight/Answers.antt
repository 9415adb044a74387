use Rattle.std.proofs.Common.{◌∙◌, ap, sym}
use Rattle.bit_field.specs.Numbers.{has_number}
use Rattle.bit_field.proofs.fast.other_in_eight.Goals.{in-Signed, in_default}
use Rattle.bit_field.proofs.fast.other_in_eight.Goals as goal

pub signed_in_eight-requires-clause-some : goal.signed_in_eight-requires-clause-some
signed_in_eight-requires-clause-some c = λ is. elim c.match-matches.branch [
  | in-Signed w ↦ c.width_in_eight-width.ensures.some (sym (ap has_number w.in-Signed.ensures))
  | in_default w ↦ absurd (cc (sym is ∙ w.matches-is))
]
