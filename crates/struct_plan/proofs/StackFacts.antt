-- Groups that are put on a stack and taken off it.
use Rattle.std.proofs.Common.{◌≡◌, ℕ, zero, suc, ◌+◌, ◌-◌, ◌*◌, ◌<◌, ◌≤◌, List, [], ◌∷◌, ◌++◌, length, take, drop, Option, Some, None, refl, ap, ◌∙◌, arith}
use Rattle.std.proofs.lemmas.List.{length-take-le, drop_at}
use Rattle.std.specs.List.{cons_option}
use Rattle.mib_model.specs.declared.packet.Value.{Value}
use Rattle.struct_plan.specs.declared.group.RowGroup.{RowGroup}
use Rattle.struct_plan.specs.Stacks.{inner_in, outer_in, paired, singles}

-- the groups in the first slots
first-paired : (s n : ℕ) (slots : List Value) → n ≤ 2 * s → take n (paired (take s slots)) ≡ take n (paired slots)
first-paired s zero slots few = refl
first-paired zero (suc n) slots few = absurd (omega (arith, few))
first-paired (suc s) (suc n) [] few = refl
first-paired (suc s) (suc zero) (slot ∷ slots) few = refl
first-paired (suc s) (suc (suc n)) (slot ∷ slots) few = ap (λ (gs : List RowGroup). inner_in slot ∷ outer_in slot ∷ gs) (first-paired s n slots (omega (arith, few)))

-- the innermost groups that stand in a stack
first-standing : (o : Option RowGroup) (s n : ℕ) (slots : List Value) → n ≤ singles o + 2 * s → take n (cons_option o (paired (take s slots))) ≡ take n (cons_option o (paired slots))
first-standing None s n slots few = first-paired s n slots (omega (arith, few))
first-standing (Some g) s zero slots few = refl
first-standing (Some g) s (suc n) slots few = ap (λ (gs : List RowGroup). g ∷ gs) (first-paired s n slots (omega (arith, few)))

-- the groups behind slots of which so many were copied to the last places
pub copied-standing : (most used s count : ℕ) (slots new : List Value) (o : Option RowGroup) → length slots ≡ most → used + 2 * s ≤ most → new ≡ take (length slots - s) slots ++ take s (drop used slots) → count ≤ singles o + 2 * s
    → take count (cons_option o (paired (drop (most - s) new))) ≡ take count (cons_option o (paired (drop used slots)))
copied-standing most used s count slots new o long room is few =
    let front : length (take (length slots - s) slots) ≡ most - s = length-take-le (length slots - s) slots (omega arith) ∙ ap (λ n. n - s) long in
    let back : drop (most - s) new ≡ take s (drop used slots) = ap (drop (most - s)) is ∙ drop_at (take (length slots - s) slots) (take s (drop used slots)) (most - s) front in
    ap (λ (xs : List Value). take count (cons_option o (paired xs))) back ∙ first-standing o s count (drop used slots) few

-- one group more, where there is room for it
pub one-more : (room count : ℕ) (g : RowGroup) (all gs kept : List RowGroup) → 0 < room → all ≡ g ∷ gs → take count gs ≡ take (room - 1) kept → take (count + 1) all ≡ take room (g ∷ kept)
one-more zero count g all gs kept some is same = absurd (omega (arith, some))
one-more (suc room) count g all gs kept some is same =
    let more : count + 1 ≡ suc count = omega arith in
    let less : suc room - 1 ≡ room = omega arith in
    ap (λ n. take n all) more ∙ (ap (take (suc count)) is ∙ ap (λ (hs : List RowGroup). g ∷ hs) (same ∙ ap (λ n. take n kept) less))
