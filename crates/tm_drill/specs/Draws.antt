-- The numbers that a generated run draws. [This profile; the multiplier and the increment are those of D. E. Knuth's MMIX.]
use Rattle.std.specs.Prelude.{ℕ, zero, suc, ◌+◌, ◌*◌, ◌/◌, ◌%◌, ◌^◌}

-- the state behind a state
abbrev pub next_state : ℕ → ℕ
next_state state = (state * 6364136223846793005 + 1442695040888963407) % 2 ^ 64

-- the state after so many draws
unfoldable pub state_after : ℕ → ℕ → ℕ
state_after state zero = state
state_after state (suc draws) = next_state (state_after state draws)

-- the number that a draw gives, the first behind a state being the draw 1
abbrev pub drawn : ℕ → ℕ → ℕ
drawn state draw = state_after state draw / 2 ^ 32
