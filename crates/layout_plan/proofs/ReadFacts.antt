-- What is read at one place and behind it.
use Rattle.std.proofs.Common.{◌≡◌, ℕ, ◌+◌, Bool, true, false, List, [], ◌∷◌, ◌++◌, Option, Some, None, ◌==◌, if◌then◌else◌, refl, sym, ap, ◌∙◌}
use Rattle.std.proofs.lemmas.List.{append-nil, append_assoc}
use Rattle.mib_model.specs.declared.packet.Ended.TheVariants.{Short, Many}
use Rattle.mib_model.specs.declared.packet.Value.{Value}
use Rattle.mib_model.specs.Fixed.{Place, most_values, holds_place, value_at}
use Rattle.layout_plan.specs.Readings.{Read, behind, read_from}

-- values behind values
pub behind-append : (xs ys : List Value) (read : Read) → behind xs (behind ys read) ≡ behind (xs ++ ys) read
behind-append xs ys read = ap (λ (zs : List Value). (zs, read.1)) (sym (append_assoc xs ys read.0))

-- there is no room
pub reads-many : (packet : List ℕ) (xs : List Value) (given : ℕ) (place : Place) (places : List Place) → given ≡ most_values → behind xs (read_from packet given (place ∷ places)) ≡ (xs, Many)
unfolding read_from
reads-many packet xs given place places full = rw full (ap (λ (zs : List Value). (zs, Many)) (append-nil xs))

-- its bits aren't in the packet
pub reads-short : (packet : List ℕ) (xs : List Value) (given : ℕ) (place : Place) (places : List Place) → (given == most_values) ≡ false → holds_place packet place ≡ false → behind xs (read_from packet given (place ∷ places)) ≡ (xs, Short place.name)
unfolding read_from
reads-short packet xs given place places room out = rw (room, out) (ap (λ (zs : List Value). (zs, Short place.name)) (append-nil xs))

-- its value is read
pub reads-value : (packet : List ℕ) (xs : List Value) (given : ℕ) (place : Place) (places : List Place) → (given == most_values) ≡ false → holds_place packet place ≡ true → behind xs (read_from packet given (place ∷ places)) ≡ behind (xs ++ value_at packet place ∷ []) (read_from packet (given + 1) places)
unfolding read_from
reads-value packet xs given place places room inside = rw (room, inside) (behind-append xs (value_at packet place ∷ []) (read_from packet (given + 1) places))

-- where a choice gives nothing, its condition fails
pub none-held : {A : Type 0} (holds : Bool) (x : A) (found : Option A) → found ≡ (if holds then Some x else None) → found ≡ None → holds ≡ false
none-held true x found is none = absurd (cc (sym is ∙ none))
none-held false x found is none = refl

-- where a choice gives something, its condition holds
pub some-held : {A : Type 0} (holds : Bool) (x y : A) (found : Option A) → found ≡ (if holds then Some x else None) → found ≡ Some y → holds ≡ true
some-held true x y found is some = refl
some-held false x y found is some = absurd (cc (sym is ∙ some))

-- and it gives this
pub some-given : {A : Type 0} (holds : Bool) (x y : A) (found : Option A) → found ≡ (if holds then Some x else None) → found ≡ Some y → y ≡ x
some-given true x y found is some = cc (is, some)
some-given false x y found is some = absurd (cc (sym is ∙ some))

-- behind a value that was pushed
pub pushed : (room : Bool) (old new : List Value) (v w : Value) (given used : ℕ) (packet : List ℕ) (rest : List Place) → room ≡ true → new ≡ (if room then old ++ v ∷ [] else old) → used ≡ (if room then given + 1 else given) → v ≡ w → behind (old ++ w ∷ []) (read_from packet (given + 1) rest) ≡ behind new (read_from packet used rest)
pushed room old new v w given used packet rest is taken moved same = rw (taken, moved, is, same) refl
