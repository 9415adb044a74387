-- What a live run leaves. [This profile.]
use Rattle.std.specs.Prelude.{◌≡◌, ◌≢◌, ◌⊎◌, ℕ, ◌≤◌, ◌<◌, ◌+◌, ◌^◌, ◌==◌, Bool, false, List, [], ◌∷◌, ◌++◌, length, Option, IfSome}
use Rattle.std.specs.Io.KnownBytes.{Appends, Consumes, IsAtEnd}
use Rattle.decode_session.specs.Run.{most_in_flight, most_packets}
use Rattle.histories.specs.History.{IsOfSeatsBelow, Permits, calls_of, moves_of}
use Rattle.live_desk.specs.declared.desk_end.DeskEnd.{DeskEnd}
use Rattle.live_desk.specs.DeskEnds.{is_desk_fault, is_reply_fault}
use Rattle.live_desk.specs.Scripts.{Desked}
use Rattle.mib_model.specs.Texts.{rest_unless}
use Rattle.tm_io.specs.Octets.{WritesUnless}
use Rattle.tm_io.specs.Causes.{RisesWhere}
use Rattle.tool_objects.specs.Objects.{ShelfView, SinkView}
use Rattle.tool_objects.specs.Told.{HasTurned}
use Rattle.run_model.specs.declared.code.Code.{Code}
use Rattle.run_model.specs.declared.code.Code.TheVariants.{OutFault}
use Rattle.mib_model.specs.declared.database.Database.{Database}
use Rattle.run_model.specs.Endings.{Ending, code_of_ending}
use Rattle.mib_model.specs.Interpreter.{start}
use Rattle.run_model.specs.Output.{output, stamped_by}
use Rattle.mib_model.specs.Packets.{IsCut}
use Rattle.edition_register.specs.declared.outcome.Closed.{Closed}
use Rattle.edition_register.specs.Seats.{history_of}
use Rattle.mib_model.specs.declared.meaning.MadeFor as MadeFor
use Rattle.mib_model.specs.declared.meaning.Rows as Rows
use Rattle.run_model.specs.Register.{count_of_editions}
use Rattle.packet_run.specs.Told.{Member, members_from}
use Rattle.run_model.specs.RegisterHistories.{AddsItsPlans, IsRegisterHistory, MayEnter, RegisterHistory, register_after, stamps}

-- an object before and behind a call: its octets, where it tells them, and how often it failed
pub record Object : Type 0 where
  pub old : Option (List ℕ)
  pub new : Option (List ℕ)
  pub before : ℕ
  pub now : ℕ

-- an object of these octets before and behind a call, and of these counts of failures
abbrev pub object : Option (List ℕ) → Option (List ℕ) → ℕ → ℕ → Object
object old new before now = record { old = old; new = new; before = before; now = now }

-- a source that a run reads
abbrev pub read_of : {S : Type 0} → ShelfView S → Object
read_of s = object (s.left s.before) (s.left s.now) (s.faults s.before) (s.faults s.now)

-- a source that had this left as a run opened, where it tells that
abbrev pub from : {S : Type 0} → ShelfView S → Option (List ℕ) → Object
from s start = object start (s.left s.now) (s.faults s.before) (s.faults s.now)

-- a sink that a run writes to
abbrev pub written_to : {O : Type 0} → SinkView O → Object
written_to o = object (o.written o.before) (o.written o.now) (o.faults o.before) (o.faults o.now)

-- a history is the register's, of an intake and a desk, and each edition that it adds has the plans of its tables
pub record IsLiveHistory (first : Database) (history : RegisterHistory) : Type 0 where
  pub legal : IsRegisterHistory first history
  pub permitted : Permits MayEnter history
  pub seats : IsOfSeatsBelow 2 history
  pub plans : AddsItsPlans history

-- a feed that tells its octets was read to its end, or as far as a run reads
abbrev pub IsReadOut : Object → List (List ℕ) → Type 0
IsReadOut feed packets = IfSome feed.old (λ octets. IsAtEnd feed.new) ⊎ (length packets ≡ most_packets)

-- of the packets that were read the records of the first ones were printed whole, by their stamps in the history, and no other: what stands behind them
-- ends before the next record does; no more packets were read behind those than may be in flight
pub record ReadsAhead (first : Database) (history : RegisterHistory) (packets : List (List ℕ)) (out : Object) : Type 0 where
  pub printed : List (List ℕ)
  pub others : List (List ℕ)
  pub parted : packets ≡ printed ++ others
  pub few : length others ≤ most_in_flight
  pub more : List ℕ
  pub least : Appends out.old out.new (output first printed history [] ++ more)
  pub in_next : (next : List ℕ) (rest : List (List ℕ)) → others ≡ next ∷ rest
      → length (output first printed history [] ++ more) < length (output first (printed ++ next ∷ []) history [])

-- what was read of the feed is cut into packets and a rest; each packet was stamped, and the output got the text of all by their
-- stamps in the history, or where it failed a first part of it, behind which few packets were read; where neither failed the feed was
-- read out
pub record Prints (first : Database) (history : RegisterHistory) (feed out : Object) : Type 0 where
  pub read : List ℕ
  pub packets : List (List ℕ)
  pub rest : List ℕ
  pub taken : Consumes feed.old feed.new read
  pub cut : IsCut read packets rest
  pub moves : length (moves_of 0 history) ≡ length packets
  pub stamped : length (stamps history) ≡ length packets
  pub few : length packets ≤ most_packets
  pub limit : length packets ≡ most_packets → rest ≡ []
  pub out_failed : Bool
  pub feed_failed : Bool
  pub out_count : RisesWhere out_failed out.before out.now
  pub feed_count : RisesWhere feed_failed feed.before feed.now
  pub whole : out_failed ≡ false → feed_failed ≡ false → IsReadOut feed packets
  pub written : WritesUnless out_failed out.old out.new (output first packets history (rest_unless feed_failed rest))
  pub ahead : ReadsAhead first history packets out

-- what happened in a run, by the faults of its objects, the rest of the feed and the number of packets
abbrev pub ending_of : Bool → Bool → DeskEnd → List ℕ → List (List ℕ) → Ending
ending_of out_failed feed_failed desk rest packets = record {
  out_failed = out_failed;
  replies_failed = is_reply_fault desk;
  feed_failed = feed_failed;
  desk_failed = is_desk_fault desk;
  rest = length rest;
  is_limit = length packets == most_packets;
}

-- an object whose count didn't rise and still could: where all that was written was handed on before, all that is written now is
abbrev pub StaysHandedOn : {P : Type 0} → ℕ → ℕ → (P → Option (List ℕ)) → (P → Option (List ℕ)) → P → P → Type 0
StaysHandedOn before now written handed old new = now ≡ before → before + 1 < 2 ^ 64 → handed old ≡ written old → handed new ≡ written new

module _ {E B : Type 0} {rows : Rows.Ghosts E} {boards : MadeFor.Ghosts B} where
  -- what a closed register tells beside its history is what that comes to from a first edition: the number of the packet that would be next,
  -- and how many editions there are
  abbrev pub EndsAs : Database → Closed E B rows boards → Type 0
  EndsAs first closed =
      (closed.next ≡ (register_after first (history_of closed)).next) × (closed.editions ≡ count_of_editions (register_after first (history_of closed)))

-- a live run: its history, what it printed of the feed, and what it did with the desk's script and replied, by that history; the code
-- is that of what happened, and an object failed where its count of faults rose
pub record Lives (code : Code) (first : Database) (history : RegisterHistory) (feed desk out replies : Object) : Type 0 where
  pub is_history : IsLiveHistory first history
  pub prints : Prints first history feed out
  pub desk_end : DeskEnd
  pub desked : Desked desk_end first (calls_of 1 history) history desk.old desk.new replies.old replies.new
  pub desk_count : RisesWhere (is_desk_fault desk_end) desk.before desk.now
  pub replies_count : RisesWhere (is_reply_fault desk_end) replies.before replies.now
  pub is_code : code ≡ code_of_ending (ending_of prints.out_failed prints.feed_failed desk_end prints.rest prints.packets)

-- what a watch is told of packets, by their stamps in a history
abbrev pub members_by : Database → RegisterHistory → List (List ℕ) → List Member
members_by first history packets = members_from (start first) (stamped_by first history packets)

module _ {W : Type 0} (stands : W → List Member → Type 0) where
  -- a live run with a watch: it was told of the packets whose records were printed whole, in their order, which are all that were read
  -- unless the output failed
  pub record IsWatched (code : Code) (first : Database) (history : RegisterHistory) (feed desk out replies : Object) (watch watched : W) : Type 0 where
    pub lives : Lives code first history feed desk out replies
    pub all : lives.prints.out_failed ≡ false → lives.prints.ahead.others ≡ []
    pub told : (told : List Member) → stands watch told → stands watched (told ++ members_by first history lives.prints.ahead.printed)

module _ {E B : Type 0} {rows : Rows.Ghosts E} {boards : MadeFor.Ghosts B} {W : Type 0} (stands : W → List Member → Type 0) where
  -- a live run with a watch that left these objects so: all that was written is handed on unless the output failed, and what was replied unless the
  -- replies did; the closed register tells what the history comes to; the sources keep their files, and no turn to one failed
  pub record Leaves {F D O P : Type 0} (code : Code) (first : Database) (closed : Closed E B rows boards) (feed : ShelfView F) (desk : ShelfView D)
      (out : SinkView O) (replies : SinkView P) (watch told : W) : Type 0 where
    pub watched : IsWatched stands code first (history_of closed) (read_of feed) (read_of desk) (written_to out) (written_to replies) watch told
    pub handed : code ≢ OutFault → out.handed out.now ≡ out.written out.now
    pub replied : StaysHandedOn (replies.faults replies.before) (replies.faults replies.now) replies.written replies.handed replies.before replies.now
    pub numbers : EndsAs first closed
    pub feed_holds : feed.holds feed.now ≡ feed.holds feed.before
    pub feed_turned : HasTurned feed
    pub desk_holds : desk.holds desk.now ≡ desk.holds desk.before
    pub desk_turned : HasTurned desk
