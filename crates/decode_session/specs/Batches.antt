-- What is read. [This project's own.]
use Rattle.std.specs.Prelude.{◌≡◌, ◌≢◌, ℕ, ◌<◌, ◌+◌, List, [], length, Option, IfSome}
use Rattle.std.specs.List.{All, concat}
use Rattle.std.specs.Io.KnownBytes.{Consumes, IsAtEnd}
use Rattle.packet_feed.specs.Feed.{TookRest, TookLast}
use Rattle.decode_session.specs.declared.batch.Filled.{Filled}
use Rattle.decode_session.specs.declared.batch.Filled.TheVariants as filled
use Rattle.decode_session.specs.declared.cell.PacketCell.{PacketCell}
use Rattle.decode_session.specs.Cells.{packet_in}
use Rattle.mib_model.specs.Packets.{IsPacket}

-- a cell has the packet that was read, with this number
pub record IsRead (number : ℕ) (cell : PacketCell) (old new : Option (List ℕ)) : Type 0 where
  pub has_number : cell.number ≡ number
  pub is_packet : IsPacket (packet_in cell)
  pub taken : Consumes old new (packet_in cell)

-- why no packet was read: none was left; a rest was left and was taken; the feed failed, and no whole packet was taken
abbrev pub EndsFeed : Filled → Option (List ℕ) → Option (List ℕ) → Type 0
EndsFeed filled.Paused old new = ⊥
EndsFeed filled.End old new = IsAtEnd old × Consumes old new []
EndsFeed (filled.Cut count) old new = TookLast count old new
EndsFeed filled.Failed old new = TookRest old new

-- how packets end: with one; or behind them as the feed does. A rest is taken only where no packet waits
abbrev pub EndsBatch : Filled → List (List ℕ) → Option (List ℕ) → Option (List ℕ) → Type 0
EndsBatch filled.Paused packets old new = (new ≡ old) × (0 < length packets)
EndsBatch filled.End packets old new = EndsFeed filled.End old new
EndsBatch (filled.Cut count) packets old new = EndsFeed (filled.Cut count) old new × IfSome old (λ octets. packets ≡ [])
EndsBatch filled.Failed packets old new = EndsFeed filled.Failed old new

-- in a run that began with these octets, if they were told, these packets were read, from a number on up to the one of the next
-- number, and then it ended so, as the feed does where it isn't by a packet
pub record Reads (f : Filled) (start : Option (List ℕ)) (number next : ℕ) (packets : List (List ℕ)) (old new : Option (List ℕ)) : Type 0 where
  pub middle : Option (List ℕ)
  pub are_packets : All IsPacket packets
  pub taken : IfSome start (λ octets. Consumes old middle (concat packets))
  pub count : next ≡ number + length packets
  pub ends : IfSome start (λ octets. EndsBatch f packets middle new)
  pub of_feed : f ≢ filled.Paused → EndsFeed f middle new
