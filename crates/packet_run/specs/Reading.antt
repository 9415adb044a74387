-- Packets as they are read and stamped. [This profile.]
use Rattle.std.specs.Prelude.{◌≡◌, ℕ, ◌+◌, List, [], ◌∷◌, ◌++◌, length, Option, MatchOption}
use Rattle.std.specs.List.{All, concat}
use Rattle.std.specs.Io.KnownBytes.{Consumes}
use Rattle.decode_session.specs.Cells.{packet_in, stamped_cell}
use Rattle.edition_register.specs.Starts.{IsStart}
use Rattle.fold_state.specs.Boards.{is_made_for}
use Rattle.histories.specs.History.{move}
use Rattle.histories.specs.declared.history.Move.{Move}
use Rattle.mib_model.specs.declared.database.Database.{Database}
use Rattle.run_model.specs.declared.register.Answer.{Answer}
use Rattle.run_model.specs.declared.register.Answer.TheVariants as answer
use Rattle.run_model.specs.declared.register.Entry.{Entry}
use Rattle.run_model.specs.declared.register.Entry.TheVariants as entry
use Rattle.mib_model.specs.Interpreter.{StampedPacket}
use Rattle.mib_model.specs.Packets.{IsPacket}
use Rattle.run_model.specs.RegisterHistories.{RegisterHistory}
use Rattle.packet_run.specs.declared.reading.StampedCell.{StampedCell}
use Rattle.packet_run.specs.Stamped.{stamped_by_moves}

-- the move that stamps a packet
abbrev pub stamp_of : StampedPacket → Move Entry Answer
stamp_of s = move 0 entry.Stamp (answer.Stamped s.number s.edition s.tables)

-- a packet that was read and stamped, with the tables that its stamp shows
abbrev pub stamped_as : {P : Type 0} → StampedCell P → Database → StampedPacket
stamped_as read shown = stamped_cell read.edition shown read.cell

module _ {P : Type 0} (tables : P → Database) where
  -- a packet was read and stamped, behind a stamp of an edition with its tables: its number is the next, a start is for the packet's tables,
  -- without one its edition is the one before, and one edition has the same tables
  pub record IsStamped (last : ℕ × Database) (read : StampedCell P) (before after : RegisterHistory) (old new : Option (List ℕ)) : Type 0 where
    pub shown : Database
    pub own : after ≡ before ++ stamp_of (stamped_as read shown) ∷ []
    pub number : read.cell.number ≡ length before + 1
    pub is_packet : IsPacket (packet_in read.cell)
    pub taken : Consumes old new (packet_in read.cell)
    pub same : read.edition ≡ last.0 → shown ≡ last.1
    pub begins : MatchOption read.start ((read.edition, shown) ≡ last) (λ start. IsStart tables is_made_for shown start)

-- packets were read, each of which was stamped by one of these moves
pub record Reads (moves : RegisterHistory) (stamped : List StampedPacket) (packets : List (List ℕ)) (old new : Option (List ℕ)) : Type 0 where
  pub many : length packets ≡ length moves
  pub are_packets : All IsPacket packets
  pub taken : Consumes old new (concat packets)
  pub are_stamped : stamped ≡ stamped_by_moves moves packets
