use Rattle.std.proofs.Common.{◌≡◌, ◌∙◌, ℕ, ◌*◌, cond, length, ap, arith}
use Rattle.std.specs.Prelude.{◌==◌, ◌&&◌}
use Rattle.std.specs.List.{find, range_with_len}
use Rattle.mib_model.specs.Bits.{bit}
use Rattle.bit_writer.specs.Writes.{bit_left, is_set, octets_left}
use Rattle.bit_writer.proofs.OctetFacts.{clash-is, octets-are, zero-bit}
use Rattle.bit_writer.proofs.writing.write_all.Goals as goal

-- the bits of the octets that are written
module _ (c : goal.After-common_bit) where
  long : length c.mark_all.new.ones ≡ length c.args.into.now
  long = c.mark_all.auto.ones ∙ c.clear.auto.octets

  left : (j : ℕ) → bit c.mark_all.new.ones j ≡ bit_left c.args.writes.now j
  left j =
      c.mark_all.ensures.ones j
      ∙ ap (λ (x : ℕ). cond (is_set 1 c.args.writes.now j) 1 x) (zero-bit c.clear.new.octets (λ k low. c.clear.ensures k (omega (arith, low, c.clear.auto.octets))) j)

  zeros : (j : ℕ) → bit c.mark_all.new.zeros j ≡ cond (is_set 0 c.args.writes.now j) 1 0
  zeros j =
      c.mark_all.ensures.zeros j
      ∙ ap (λ (x : ℕ). cond (is_set 0 c.args.writes.now j) 1 x) (zero-bit c.clear-2.new.octets (λ k low. c.clear-2.ensures k (omega (arith, low, c.clear-2.auto.octets))) j)

pub returns-clause-clash : goal.returns-clause-clash
returns-clause-clash c =
    c.common_bit.ensures.least
    ∙ (ap (λ (n : ℕ). find (λ j. (bit c.mark_all.new.ones j == 1) && (bit c.mark_all.new.zeros j == 1)) (range_with_len 0 (8 * n))) (long c)
    ∙ clash-is c.args.writes.now c.mark_all.new.ones c.mark_all.new.zeros (length c.args.into.now) (left c) (zeros c))

pub returns-clause-octets : goal.returns-clause-octets
returns-clause-octets c = octets-are c.args.writes.now c.mark_all.new.ones c.common_bit.ensures.octets (left c) ∙ ap (octets_left c.args.writes.now) (long c)
