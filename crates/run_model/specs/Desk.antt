-- The state of a desk, its replies, and what its lines come to: for a single desk and for each of several. [This profile.]
use Rattle.std.specs.Prelude.{ℕ, Option, Some}
use Rattle.run_model.specs.declared.register.Answer.{Answer}
use Rattle.run_model.specs.declared.register.Entry.{Entry}
use Rattle.run_model.specs.declared.reply.Reply.{Reply}
use Rattle.mib_model.specs.declared.database.Database.{Database}

-- a reply of a desk: one that a single desk has too, or one of the two that only several have
pub data DeskReply : Type 0 where
  Plain : (reply : Reply) → DeskReply
  Stale : (newest : ℕ) → DeskReply
  Took : (edition : ℕ) → DeskReply

-- the state of a desk: the draft, the tables that it was made from, and the edition that these are
pub record DeskState : Type 0 where
  pub draft : Database
  pub base : Database
  pub edition : ℕ

-- at the start the draft is edition 1
abbrev pub desk_start : Database → DeskState
desk_start first = record { draft = first; base = first; edition = 1 }

-- a line's way to its reply: it is done, or an entry is made and the way goes on by its answer
pub data Way : Type 0 where
  Done : (reply : Option DeskReply) (state : DeskState) → Way
  Ask : (entry : Entry) (on : Answer → Way) → Way

-- a line that is done, with a reply
abbrev pub says : DeskState → Reply → Way
says s r = Done (Some (Plain r)) s
