-- What a run reads and writes. [This profile.]
use Rattle.std.specs.Prelude.{◌≡◌, ℕ, ◌<◌, ◌≤◌, List, [], ◌++◌, length, Option, IfSome, Result, Ok, Err, ◌⊎◌}
use Rattle.std.specs.Io.KnownBytes.{Appends, Consumes, IsAtEnd}
use Rattle.tm_io.specs.Causes.{Rose}
use Rattle.tm_io.specs.Octets.{AppendsPrefix}
use Rattle.mib_model.specs.declared.database.Database.{Database}
use Rattle.run_model.specs.Output.{output_of_one}
use Rattle.mib_model.specs.Packets.{IsCut}
use Rattle.mib_model.specs.Texts.{cut_text, rest_text}
use Rattle.decode_session.specs.declared.ending.RunEnd.{RunEnd}
use Rattle.decode_session.specs.declared.ending.RunEnd.TheVariants as end
use Rattle.decode_session.specs.declared.ending.RunFault.{RunFault}
use Rattle.decode_session.specs.declared.ending.RunFault.TheVariants as fault
use Rattle.decode_session.specs.declared.ending.Stop.TheVariants as stop

-- the most packets of a run
abbrev pub most_packets : ℕ
most_packets = 1000000000

-- the text of packets was written, and then a tail
abbrev pub Writes : Database → List (List ℕ) → List ℕ → Option (List ℕ) → Option (List ℕ) → Type 0
Writes db packets tail old new = Appends old new (output_of_one db packets tail)

-- a first part of the text of packets, with what ends it, was written
abbrev pub WritesPart : Database → List (List ℕ) → List ℕ → Option (List ℕ) → Option (List ℕ) → Type 0
WritesPart db packets tail old new = AppendsPrefix old new (output_of_one db packets tail)

-- the text of packets was written, and maybe more
abbrev pub WritesOver : Database → List (List ℕ) → Option (List ℕ) → Option (List ℕ) → Type 0
WritesOver db packets old new = (more : List ℕ) × Appends old new (output_of_one db packets [] ++ more)

-- the most packets that are read and not printed yet
abbrev pub most_in_flight : ℕ
most_in_flight = 64

-- of what was read only packets in flight are left to be printed, and behind them nothing was read, unless the feed failed there
pub record ReadsNoFurther (packets printed : List (List ℕ)) (rest : List ℕ) (before now : ℕ) : Type 0 where
  pub more : List (List ℕ)
  pub parted : packets ≡ printed ++ more
  pub few : length more ≤ most_in_flight
  pub last : (0 < length more → rest ≡ []) ⊎ Rose before now

-- what was written where the output failed: a first part of the text, whose tail tells the rest unless the feed failed, and at
-- least all but the records in flight or the line at which it failed; nothing was read behind that
pub record StopsWriting (db : Database) (packets : List (List ℕ)) (rest : List ℕ) (before now : ℕ) (old new : Option (List ℕ)) : Type 0 where
  pub whole : now ≡ before → WritesPart db packets (rest_text rest) old new
  pub fault : before < now → WritesPart db packets [] old new
  pub printed : List (List ℕ)
  pub reads : ReadsNoFurther packets printed rest before now
  pub least : WritesOver db printed old new

-- ---- what a run leaves

-- what is said of a database, the packets and the rest that were read, what the feed had and has left, and what was written before and now
abbrev pub Says : Type 1
Says = Database → List (List ℕ) → List ℕ → Option (List ℕ) → Option (List ℕ) → Option (List ℕ) → Option (List ℕ) → Type 0

-- the feed was read to its end, and all packets were printed
abbrev pub EndsWhole : Says
EndsWhole db packets rest start left old new =
    (rest ≡ []) × IfSome start (λ octets. IsAtEnd left) × (length packets < most_packets) × Writes db packets [] old new

-- the feed was read to its end, which is a rest of so many octets, and all packets and the line of the rest were printed
abbrev pub EndsCut : ℕ → Says
EndsCut count db packets rest start left old new =
    (length rest ≡ count) × (0 < count) × IfSome start (λ octets. IsAtEnd left) × (length packets < most_packets)
    × Writes db packets (cut_text count) old new

-- the most packets were read and printed
abbrev pub EndsAtLimit : Says
EndsAtLimit db packets rest start left old new = (rest ≡ []) × (length packets ≡ most_packets) × Writes db packets [] old new

-- the feed failed behind the packets that were read, which were printed
abbrev pub EndsUnread : Says
EndsUnread db packets rest start left old new = (length packets < most_packets) × Writes db packets [] old new

-- the output failed, with these counts of faults of the feed
abbrev pub EndsUnwritten : ℕ → ℕ → Says
EndsUnwritten before now db packets rest start left old new =
    (length packets ≤ most_packets) × StopsWriting db packets rest before now old new

-- memory ran out before anything was read or written
abbrev pub EndsWanting : Says
EndsWanting db packets rest start left old new = (packets ≡ []) × (rest ≡ []) × (new ≡ old)

-- what a run leaves by its answer, with these counts of faults of the feed
abbrev pub EndsBy : Result RunEnd RunFault → ℕ → ℕ → Says
EndsBy (Ok end.Whole) before now = EndsWhole
EndsBy (Ok (end.Cut count)) before now = EndsCut count
EndsBy (Ok end.Limit) before now = EndsAtLimit
EndsBy (Err fault.Feed) before now = EndsUnread
EndsBy (Err (fault.Print stop.Out)) before now = EndsUnwritten before now
EndsBy (Err (fault.Print stop.Memory)) before now = EndsWanting

-- what a run did: what it read, which stood in front of the feed where that told its octets, is cut into packets and a rest, of which this is said
abbrev pub Ran : Says → Database → Option (List ℕ) → Option (List ℕ) → Option (List ℕ) → Option (List ℕ) → Type 0
Ran says db start left old new =
    (read : List ℕ) × (packets : List (List ℕ)) × (rest : List ℕ)
    × Consumes start left read × IsCut read packets rest × says db packets rest start left old new
