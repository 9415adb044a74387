-- A step of the interpreter, before and after. [This profile.]
use Rattle.std.specs.Prelude.{◌≡◌, ℕ, Bool, List, ◌++◌}
use Rattle.std.specs.List.{All}
use Rattle.memory_laws.specs.Alike.{AreAlike}
use Rattle.mib_model.specs.declared.database.Database.{Database}
use Rattle.mib_model.specs.Interpreter.{Course, StampedPacket, memory_for, record_for, course_after, interpret, course_after_all, records_text}
use Rattle.mib_model.specs.Kept.{Memory}
use Rattle.mib_model.specs.Texts.{record_body}

-- the interpreter comes to a packet with this number, of an edition with these tables, with this memory
pub record ComesTo (c : Course) (s : StampedPacket) (count : ℕ) (octets : List ℕ) (db : Database) (before : Memory) : Type 0 where
  pub number : s.number ≡ count
  pub packet : s.packet ≡ octets
  pub tables : s.tables ≡ db
  pub memory : memory_for c s ≡ before

-- the packet's record without its edition stands behind a text, and the step leaves a memory that is alike to this one, as far as names are
-- asked
pub record HasSteppedFor (asked : List ℕ → Bool) (c : Course) (s : StampedPacket) (after : Memory) (old new : List ℕ) : Type 0 where
  pub text : new ≡ old ++ record_body (record_for c s)
  pub memory : AreAlike asked (course_after c s).memory after

-- the packet's record without its edition stands behind a text, and the step leaves this memory
pub record HasStepped (c : Course) (s : StampedPacket) (after : Memory) (old new : List ℕ) : Type 0 where
  pub text : new ≡ old ++ record_body (record_for c s)
  pub memory : (course_after c s).memory ≡ after

-- a packet with its number is this one, of an edition with these tables
pub record IsStampedOf (s : StampedPacket) (count : ℕ) (octets : List ℕ) (db : Database) : Type 0 where
  pub number : s.number ≡ count
  pub packet : s.packet ≡ octets
  pub tables : s.tables ≡ db

-- a packet is of an edition with these tables
pub record IsOf (number : ℕ) (db : Database) (s : StampedPacket) : Type 0 where
  pub edition : s.edition ≡ number
  pub tables : s.tables ≡ db

-- the interpreter stands in an edition with these tables and this memory, and packets of that edition come
pub record ComeTo (c : Course) (ss : List StampedPacket) (db : Database) (before : Memory) : Type 0 where
  pub tables : c.tables ≡ db
  pub memory : c.memory ≡ before
  pub packets : All (IsOf c.edition c.tables) ss

-- the packets' records stand behind a text, and their run leaves a memory that is alike to this one, as far as names are asked
pub record HasRunFor (asked : List ℕ → Bool) (c : Course) (ss : List StampedPacket) (after : Memory) (old new : List ℕ) : Type 0 where
  pub text : new ≡ old ++ records_text (interpret c ss)
  pub memory : AreAlike asked (course_after_all c ss).memory after
