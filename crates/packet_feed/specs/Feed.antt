-- What a feed gives: packets, then its end or a rest. [CCSDS 133.0-B, packet data length, for the packets.]
use Rattle.std.specs.Prelude.{◌≡◌, ℕ, ◌<◌, ◌≤◌, List, [], length, take, Option}
use Rattle.std.specs.Io.KnownBytes.{Consumes, IsAtEnd}
use Rattle.tm_io.specs.Causes.{Rose}
use Rattle.mib_model.specs.Headers.{header_of}
use Rattle.mib_model.specs.Packets.{IsPacket, BeginsNoPacket}
use Rattle.packet_feed.specs.declared.feed.Feed.{Feed}
use Rattle.packet_feed.specs.declared.next.Next.{Next}
use Rattle.packet_feed.specs.declared.next.Next.TheVariants as next

-- the source of a feed
abbrev pub source_of : {S : Type 0} → Feed S → S
source_of feed = feed.source

-- what reading leaves of a source: the files that it holds, how often it failed to turn to one, and which loan it is
abbrev pub SourceStays : {S : Type 0} → (S → Option (List ℕ → Option (List ℕ))) → (S → ℕ) → (S → ℕ) → S → S → Type 0
SourceStays holds missed borrow old new = (holds new ≡ holds old) × (missed new ≡ missed old) × (borrow new ≡ borrow old)

-- a packet stands at the front of these octets
abbrev pub BeginsWithPacket : List ℕ → Type 0
BeginsWithPacket octets = (n : ℕ) × (n ≤ length octets) × IsPacket (take n octets)

-- some octets were taken that begin no packet
abbrev pub TookRest : Option (List ℕ) → Option (List ℕ) → Type 0
TookRest old new = (rest : List ℕ) × BeginsNoPacket rest × Consumes old new rest

-- so many octets, at least one, were taken that begin no packet, and they were all that was left
abbrev pub TookLast : ℕ → Option (List ℕ) → Option (List ℕ) → Type 0
TookLast count old new = (rest : List ℕ) × (length rest ≡ count) × (0 < count) × BeginsNoPacket rest × Consumes old new rest × IsAtEnd new

-- what an answer says of the octets that were left, of those that are left now, and of the buffer: a packet was taken and stands
-- at the front of the buffer, with this header; none was left; a rest was left and was taken; before the fault no whole packet was taken
abbrev pub Gives : Next → Option (List ℕ) → Option (List ℕ) → List ℕ → Type 0
Gives (next.Packet count header) old new buffer =
    (count ≤ length buffer) × IsPacket (take count buffer) × Consumes old new (take count buffer) × (header ≡ header_of (take count buffer))
Gives next.End old new buffer = IsAtEnd old × Consumes old new []
Gives (next.Cut count) old new buffer = TookLast count old new
Gives next.Failed old new buffer = TookRest old new

-- the count of faults rose where the answer is a failure, and stays as it was where it is another
abbrev pub HasNextCause : Next → ℕ → ℕ → Type 0
HasNextCause next.Failed before now = (before ≤ now) × Rose before now
HasNextCause (next.Packet count header) before now = now ≡ before
HasNextCause next.End before now = now ≡ before
HasNextCause (next.Cut count) before now = now ≡ before
