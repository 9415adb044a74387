-- A packet in a frame. [This project's own.]
use Rattle.std.specs.Prelude.{◌≡◌, ◌≤◌, ℕ, List, length, take}
use Rattle.mib_model.specs.declared.packet.Header.{Header}
use Rattle.mib_model.specs.Headers.{header_of}
use Rattle.mib_model.specs.Packets.{IsPacket}

-- the first octets of a frame, so many, are a packet with this header
pub record IsFramed (frame : List ℕ) (octets : ℕ) (header : Header) : Type 0 where
  pub inside : octets ≤ length frame
  pub is_packet : IsPacket (take octets frame)
  pub is_header : header ≡ header_of (take octets frame)
