-- Packets with the stamps that an intake's moves show. [This profile.]
use Rattle.std.specs.Prelude.{◌≡◌, ◌<◌, ℕ, ◌+◌, List, [], ◌∷◌, ◌++◌, length, take}
use Rattle.std.specs.List.{flat_map, zip}
use Rattle.mib_model.specs.declared.database.Database.{Database}
use Rattle.run_model.specs.declared.register.Answer.{Answer}
use Rattle.run_model.specs.declared.register.Answer.TheVariants as answer
use Rattle.mib_model.specs.Interpreter.{StampedPacket, start, interpret, records_text}
use Rattle.run_model.specs.RegisterHistories.{RegisterHistory}

-- a packet with the stamp that a reply gives it
abbrev pub stamped_with : Answer → List ℕ → List StampedPacket
stamped_with (answer.Stamped number edition tables) packet = record { number = number; packet = packet; edition = edition; tables = tables } ∷ []
stamped_with other packet = []

-- packets with the stamps of moves, one for one
abbrev pub stamped_by_moves : RegisterHistory → List (List ℕ) → List StampedPacket
stamped_by_moves moves packets = flat_map (λ pair. stamped_with pair.0.reply pair.1) (zip moves packets)

-- the text of stamped packets, from a database on
unfoldable pub text_of : Database → List StampedPacket → List ℕ
text_of first stamped = records_text (interpret (start first) stamped)

-- a text behind the records of so many packets ends before the record of the next does, where there is one
abbrev pub EndsInNext : Database → List StampedPacket → ℕ → List ℕ → Type 0
EndsInNext first all count more = count < length all → length (text_of first (take count all) ++ more) < length (text_of first (take (count + 1) all))

-- the numbers of stamped packets follow one another, from one number on
abbrev pub IsNumberedFrom : ℕ → List StampedPacket → Type 0
IsNumberedFrom n [] = Unit {0}
IsNumberedFrom n (s ∷ ss) = (s.number ≡ n) × IsNumberedFrom (n + 1) ss

-- stamped packets that begin with these, numbered from 1 on
pub record Extends (stamped all : List StampedPacket) : Type 0 where
  pub more : List StampedPacket
  pub parts : all ≡ stamped ++ more
  pub numbered : IsNumberedFrom 1 all
