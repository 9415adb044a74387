-- How a feed is cut into packets. [CCSDS 133.0-B, packet data length: the number of octets after the primary header, less one.]
use Rattle.std.specs.Prelude.{◌≡◌, ℕ, ◌+◌, ◌≤◌, List, ◌++◌, length, take}
use Rattle.std.specs.List.{All, concat}
use Rattle.mib_model.specs.Headers.{header_of}

-- seven octets, and as many more as the length field says
abbrev pub IsPacket : List ℕ → Type 0
IsPacket octets = length octets ≡ 7 + (header_of octets).length

-- no front of these octets is a packet
abbrev pub BeginsNoPacket : List ℕ → Type 0
BeginsNoPacket octets = (n : ℕ) → n ≤ length octets → IsPacket (take n octets) → ⊥

-- a feed is these packets, and then a rest that begins no further one
pub record IsCut (feed : List ℕ) (packets : List (List ℕ)) (rest : List ℕ) : Type 0 where
  pub whole : feed ≡ concat packets ++ rest
  pub each : All IsPacket packets
  pub begins_none : BeginsNoPacket rest
