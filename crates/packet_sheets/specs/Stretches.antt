-- Packets one behind the other. [This project's own.]
use Rattle.std.specs.Prelude.{◌≡◌, ℕ, zero, suc, ◌+◌, ◌≤◌, List, [], ◌∷◌, ◌++◌, length, take, drop}

-- packets, and how many octets they have
pub record StretchView : Type 0 where
  pub packets : List (List ℕ)
  pub size : ℕ

-- no packets
abbrev pub no_stretch : StretchView
no_stretch = record { packets = []; size = 0 }

-- a packet behind the others
abbrev pub with_packet : StretchView → List ℕ → StretchView
with_packet stretch packet = record { packets = stretch.packets ++ packet ∷ []; size = stretch.size + length packet }

-- the packets that stand in octets, the first from an octet on, each up to its end
abbrev pub packets_in : List ℕ → ℕ → List ℕ → List (List ℕ)
packets_in octets start [] = []
packets_in octets start (e ∷ ends) = drop start (take e octets) ∷ packets_in octets e ends

-- where a packet begins that stands behind so many others, the first of which begins at an octet
abbrev pub start_from : ℕ → List ℕ → ℕ → ℕ
start_from start ends zero = start
start_from start [] (suc k) = start
start_from start (e ∷ ends) (suc k) = start_from e ends k

-- packets from an octet on end in their order, the last one at another octet
abbrev pub AreEnds : ℕ → List ℕ → ℕ → Type 0
AreEnds start [] end = start ≡ end
AreEnds start (e ∷ ends) end = (start ≤ e) × AreEnds e ends end

-- the packets of octets that end there
abbrev pub stretch_in : List ℕ → List ℕ → StretchView
stretch_in octets ends = record { packets = packets_in octets 0 ends; size = length octets }
