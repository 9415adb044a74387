use Rattle.std.proofs.Common.{◌≡◌, ◌∙◌, ℕ, ◌+◌, ◌-◌, ◌*◌, Option, Some, None, length, refl, sym, ap, arith}
use Rattle.std.specs.Prelude.{◌==◌, ◌&&◌, Bool, true, false, nat_lt}
use Rattle.std.proofs.lemmas.Bool.{ltb-true, ltb-false}
use Rattle.std.specs.List.{find, range_with_len}
use Rattle.std.specs.Option.{is_some}
use Rattle.mib_model.specs.Bits.{bit}
use Rattle.bit_writer.proofs.FindFacts.{find-behind, find-longer, find-none}
use Rattle.bit_writer.proofs.OctetFacts.{no-common}
use Rattle.bit_writer.proofs.clash.common_bit.Goals as goal

pub returns-clause-least : goal.returns-clause-least
returns-clause-least c =
    let p : ℕ → Bool = λ j. (bit c.args.first.now j == 1) && (bit c.args.second.now j == 1) in
    let n : ℕ = 8 * length c.args.first.now in
    let all : 0 + (n + 0) ≡ n = omega arith in
    let none : n + 0 ≡ n = omega arith in
    sym (ap (λ (m : ℕ). find p (range_with_len 0 m)) (sym none)
    ∙ find-behind p 0 n 0 (λ j low high. c.loop-octet.invariant j (omega (arith, high, c.loop-octet-test.false, c.loop-octet.auto.octet-end))))

pub loop-octet-preserved-then-first-octet-eq0 : goal.loop-octet-preserved-then-first-octet-eq0
loop-octet-preserved-then-first-octet-eq0 c j low = go (nat_lt j (8 * c.loop-octet.octet)) refl where
  go : (b : Bool) → nat_lt j (8 * c.loop-octet.octet) ≡ b → ((bit c.args.first.now j == 1) && (bit c.args.second.now j == 1)) ≡ false
  go true h = c.loop-octet.invariant j (ltb-true j (8 * c.loop-octet.octet) h)
  go false h =
      let high = ltb-false j (8 * c.loop-octet.octet) h in no-common c.args.first.now c.args.second.now c.loop-octet.octet c.if-first-octet-eq0.true j (omega (arith, low, high))

pub returns-then-is_some-clause-least : goal.returns-then-is_some-clause-least
returns-then-is_some-clause-least c = go c.common_in-found.result refl where
  go : (o : Option ℕ) → c.common_in-found.result ≡ o
      → c.common_in-found.result ≡ find (λ j. (bit c.args.first.now j == 1) && (bit c.args.second.now j == 1)) (range_with_len 0 (8 * length c.args.first.now))
  go None h = let apart : false ≡ true = ap is_some (sym h) ∙ (sym c.is_some.ensures ∙ c.if-is_some.true) in absurd (cc apart)
  go (Some x) h =
      let p : ℕ → Bool = λ j. (bit c.args.first.now j == 1) && (bit c.args.second.now j == 1) in
      let k : ℕ = c.loop-octet.octet in
      let n : ℕ = length c.args.first.now in
      let all : 8 * k + (8 + (8 * n - 8 * k - 8)) ≡ 8 * n = omega (arith, c.loop-octet-test.true) in
      let here : 0 + 8 * k ≡ 8 * k = omega arith in
      h ∙ sym (ap (λ (m : ℕ). find p (range_with_len 0 m)) (sym all)
      ∙ (find-behind p 0 (8 * k) (8 + (8 * n - 8 * k - 8)) (λ j low high. c.loop-octet.invariant j (omega (arith, high)))
      ∙ (ap (λ (a : ℕ). find p (range_with_len a (8 + (8 * n - 8 * k - 8)))) here
      ∙ find-longer p (8 * k) 8 (8 * n - 8 * k - 8) x (sym c.common_in-found.ensures ∙ h))))

pub loop-octet-preserved : goal.loop-octet-preserved
loop-octet-preserved c j low = go (nat_lt j (8 * c.loop-octet.octet)) refl where
  none : (o : Option ℕ) → c.common_in-found.result ≡ o → o ≡ None
  none None h = refl
  none (Some x) h = let apart : true ≡ false = ap is_some (sym h) ∙ (sym c.is_some.ensures ∙ c.if-is_some.false) in absurd (cc apart)

  go : (b : Bool) → nat_lt j (8 * c.loop-octet.octet) ≡ b → ((bit c.args.first.now j == 1) && (bit c.args.second.now j == 1)) ≡ false
  go true h = c.loop-octet.invariant j (ltb-true j (8 * c.loop-octet.octet) h)
  go false h =
      let high = ltb-false j (8 * c.loop-octet.octet) h in
      find-none (λ i. (bit c.args.first.now i == 1) && (bit c.args.second.now i == 1)) (8 * c.loop-octet.octet) 8 (sym c.common_in-found.ensures ∙ none c.common_in-found.result refl) j high (omega (arith, low))
