-- What a watch is told. [This profile.]
use Rattle.std.specs.Prelude.{ℕ, List, [], ◌∷◌, Option}
use Rattle.mib_model.specs.declared.database.Database.{Database}
use Rattle.mib_model.specs.Interpreter.{Course, StampedPacket, course_after}
use Rattle.mib_model.specs.Kept.{Memory}

-- what it is told of a packet: its number, its edition, and what is kept after it
pub record Member : Type 0 where
  pub number : ℕ
  pub edition : ℕ
  pub memory : Memory

-- a packet of this number and edition, with what is kept after it, as a watch is told of it
abbrev pub member : ℕ → ℕ → Memory → Member
member number edition memory = record { number = number; edition = edition; memory = memory }

-- the start of a run: the tables of edition 1, the watch, and what was written
pub record From (W : Type 0) : Type 0 where
  pub first : Database
  pub watch : W
  pub written : Option (List ℕ)

-- a run begins with these tables, this watch, and so much written
abbrev pub begun : {W : Type 0} → Database → W → Option (List ℕ) → From W
begun first watch written = record { first = first; watch = watch; written = written }

-- what it is told of packets that come to a place of the interpreter
unfoldable pub members_from : Course → List StampedPacket → List Member
members_from c [] = []
members_from c (s ∷ ss) = member s.number s.edition (course_after c s).memory ∷ members_from (course_after c s) ss
