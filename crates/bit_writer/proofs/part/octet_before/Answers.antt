use Rattle.std.proofs.Common.{◌≡◌, ◌∙◌, ◌+◌, ◌-◌, ◌≤◌, ◌/◌, ◌%◌, ◌^◌, ℕ, sym, ap, arith}
use Rattle.std.proofs.lemmas.Nat.Bits.{bit_at-zero}
use Rattle.bit_writer.proofs.PartFacts.{left-bit, no-bit, right-bit}
use Rattle.bit_writer.proofs.part.octet_before.Goals as goal

pub returns-then-end-stop : goal.returns-then-end-stop
returns-then-end-stop c place low reached =
    let by : place - (c.args.stop - c.args.end) ≡ c.args.end + place - c.args.stop = omega (arith, c.if-end-stop.true, reached) in
    left-bit c.args.number (c.args.stop - c.args.end) place low (omega (arith, c.if-end-stop.true, reached)) ∙ ap (λ (k : ℕ). c.args.number / 2 ^ k % 2) by

pub returns-then-end-stop-lt64 : goal.returns-then-end-stop-lt64
returns-then-end-stop-lt64 c place low reached =
    let by : c.args.end - c.args.stop + place ≡ c.args.end + place - c.args.stop = omega (arith, c.if-end-stop.false, reached) in
    right-bit c.args.number (c.args.end - c.args.stop) place low ∙ ap (λ (k : ℕ). c.args.number / 2 ^ k % 2) by

pub returns-else-end-stop-lt64 : goal.returns-else-end-stop-lt64
returns-else-end-stop-lt64 c place low reached =
    let far : 64 ≤ c.args.end + place - c.args.stop = omega (arith, c.if-end-stop.false, c.if-end-stop-lt64.false) in
    bit_at-zero place ∙ sym (ap (λ (n : ℕ). n % 2) (no-bit c.args.number (c.args.end + place - c.args.stop) (omega (arith, c.ranges.number)) far))
