-- Taking out a position that is no stop.
use Rattle.std.proofs.Common.{◌≡◌, ℕ, false, List, [], ◌∷◌, refl, arith}
use Rattle.tm_io.specs.Stops.{is_stop, without}

pub without_none : (stops : List ℕ) (at : ℕ) → is_stop stops at ≡ false → without stops at ≡ stops
without_none [] at none = refl
without_none (stop ∷ stops) at none = grind (arith, without_none stops at)
