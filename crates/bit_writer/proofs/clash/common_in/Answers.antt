use Rattle.std.proofs.Common.{◌≡◌, ◌∙◌, ℕ, suc, ◌+◌, ◌-◌, ◌*◌, sym, ap, arith}
use Rattle.std.specs.Prelude.{◌==◌, ◌&&◌, Bool, true}
use Rattle.std.specs.List.{find, range_with_len}
use Rattle.mib_model.specs.Bits.{bit}
use Rattle.bit_writer.proofs.FindFacts.{find-behind, find-here}
use Rattle.bit_writer.proofs.clash.common_in.Goals as goal

pub returns-then-is_one-2 : goal.returns-then-is_one-2
returns-then-is_one-2 c =
    let p : ℕ → Bool = λ j. (bit c.args.first.now j == 1) && (bit c.args.second.now j == 1) in
    let n : ℕ = c.loop-behind.behind in
    let rest : n + suc (7 - n) ≡ 8 = omega (arith, c.loop-behind-test.true) in
    let passes : p (8 * c.args.octet + n) ≡ true =
    ap (λ (b : Bool). b && (bit c.args.second.now (8 * c.args.octet + n) == 1)) (sym c.is_one.ensures ∙ c.if-is_one.true) ∙ (sym c.is_one-then-is_one.ensures ∙ c.if-is_one-2.true) in
    sym (ap (λ (m : ℕ). find p (range_with_len (8 * c.args.octet) m)) (sym rest)
    ∙ (find-behind p (8 * c.args.octet) n (suc (7 - n)) c.loop-behind.invariant ∙ find-here p (8 * c.args.octet + n) (7 - n) passes))

pub returns : goal.returns
returns c =
    let p : ℕ → Bool = λ j. (bit c.args.first.now j == 1) && (bit c.args.second.now j == 1) in
    let n : ℕ = c.loop-behind.behind in
    let all : n + 0 ≡ 8 = omega (arith, c.loop-behind-test.false, c.loop-behind.auto.behind-end) in
    sym (ap (λ (m : ℕ). find p (range_with_len (8 * c.args.octet) m)) (sym all) ∙ find-behind p (8 * c.args.octet) n 0 c.loop-behind.invariant)
