-- What a contract sees of a window, and what its calls change.
use Rattle.std.specs.Prelude.{◌≡◌, ℕ, ◌+◌, ◌<◌, ◌≤◌, ◌==◌, ◌⊎◌, Option, Some, None, IsSome, if◌then◌else◌}
use Rattle.std.specs.VecDeque.{deque_len}
use Rattle.commit_order.specs.Places.{result_at}
use Rattle.commit_order.specs.declared.window.Window.{Window}
use Rattle.commit_order.specs.declared.window.Placed.{Placed}
use Rattle.commit_order.specs.declared.window.Placed.TheVariants.{Kept, Stranger}

-- the number whose result is taken next
abbrev pub next_of : {R : Type 0} → Window R → ℕ
next_of window = window.next

-- for how many numbers there is room
abbrev pub room_of : {R : Type 0} → Window R → ℕ
room_of window = deque_len window.places

-- the result that waits under a number
abbrev pub waiting : {R : Type 0} → Window R → ℕ → Option R
waiting window n = result_at window.next window.places.items n

-- before the window, behind it, or there already
abbrev pub IsStranger : {R : Type 0} → Window R → ℕ → Type 0
IsStranger window n = (n < next_of window) ⊎ (next_of window + room_of window ≤ n) ⊎ IsSome (waiting window n)

-- a result waits under one number, and under the others as before
pub record Keeps {R : Type 0} (old new : Window R) (n : ℕ) (value : R) : Type 0 where
  pub next : next_of new ≡ next_of old
  pub room : room_of new ≡ room_of old
  pub waits : (m : ℕ) → waiting new m ≡ (if m == n then Some value else waiting old m)

-- the next number's result is gone, the other ones wait as before, and the number after it is next
pub record Advances {R : Type 0} (old new : Window R) : Type 0 where
  pub next : next_of new ≡ next_of old + 1
  pub room : room_of new ≡ room_of old
  pub waits : (m : ℕ) → waiting new m ≡ (if m == next_of old then None else waiting old m)

-- all is as it was
pub record IsUnchanged {R : Type 0} (old new : Window R) : Type 0 where
  pub next : next_of new ≡ next_of old
  pub room : room_of new ≡ room_of old
  pub waits : (m : ℕ) → waiting new m ≡ waiting old m

-- what placing a result under a number does
abbrev pub Places : {R : Type 0} → Window R → Window R → ℕ → R → Placed R → Type 0
Places old new n value Kept = (IsStranger old n → ⊥) × Keeps old new n value
Places old new n value (Stranger back) = IsStranger old n × (back ≡ value) × IsUnchanged old new
