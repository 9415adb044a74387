-- How an edition comes into use with a packet. [This profile.]
use Rattle.std.specs.Prelude.{◌≡◌, ℕ, List, ◌++◌, Option, Some, None, MatchOption, ◌==◌, if◌then◌else◌}
use Rattle.std.specs.Arc.{arc_value}
use Rattle.decode_session.specs.Finishing.{standing}
use Rattle.edition_register.specs.declared.start.Start.{Start}
use Rattle.edition_register.specs.Starts.{IsStart}
use Rattle.fold_state.specs.Boards.{Slots, is_made_for, memory_of}
use Rattle.mib_model.specs.declared.database.Database.{Database}
use Rattle.mib_model.specs.Interpreter.{Course, StampedPacket, memory_for}
use Rattle.mib_model.specs.Texts.{edition_text_of}
use Rattle.struct_plan.specs.declared.structure.Structures as Structures
use Rattle.packet_jobs.specs.declared.in_use.InUse.{InUse}

-- plans stand for the same tables by two meanings
abbrev pub AreSame : {P : Type 0} → (P → Database) → (P → Database) → Type 0
AreSame {P} rows tables = (plans : P) → rows plans ≡ tables plans

-- the edition that a packet's record tells: none where it is the one before
abbrev pub edition_told : Course → StampedPacket → Option ℕ
edition_told c s = if s.edition == c.edition then None else Some s.edition

module _ {P : Type 0} {plans : Structures.Ghosts P} (tables : P → Database) where
  -- where the interpreter stands with the edition in use
  abbrev pub course_of : InUse P plans → Course
  course_of in_use = standing in_use.edition (tables (arc_value in_use.handle)) (memory_of in_use.board)

  -- a packet comes behind those of the edition in use: a start is for its tables, without one it goes on with that edition, and one edition has
  -- the same tables
  pub record ComesBehind (rows : P → Database) (in_use : InUse P plans) (edition : ℕ) (shown : Database) (start : Option (Start P Slots)) : Type 0 where
    pub same : edition ≡ in_use.edition → shown ≡ tables (arc_value in_use.handle)
    pub begins : MatchOption start (◌≡◌ {A = ℕ × Database} (edition, shown) (in_use.edition, tables (arc_value in_use.handle)))
        (λ start. IsStart rows is_made_for shown start)

  -- its edition is in use: what is kept is carried over, and the line of the edition stands behind a text, where it wasn't the one in use
  pub record IsTurned (old new : InUse P plans) (number : ℕ) (db : Database) (text longer : List ℕ) : Type 0 where
    pub edition : new.edition ≡ number
    pub shown : tables (arc_value new.handle) ≡ db
    pub kept : (s : StampedPacket) → s.edition ≡ number → s.tables ≡ db → memory_of new.board ≡ memory_for (course_of old) s
    pub told : (s : StampedPacket) → s.edition ≡ number → longer ≡ text ++ edition_text_of (edition_told (course_of old) s)
