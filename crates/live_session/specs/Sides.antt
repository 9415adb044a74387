-- What the two sides of a live run begin with, and what they leave. [This profile.]
use Rattle.std.specs.Prelude.{◌≡◌, ◌≢◌, List, [], ◌∷◌, Option, IsSomeAnd, Result, Err}
use Rattle.decode_session.specs.declared.ending.RunEnd.{RunEnd}
use Rattle.decode_session.specs.declared.ending.RunFault.{RunFault}
use Rattle.decode_session.specs.declared.ending.RunFault.TheVariants as fault
use Rattle.decode_session.specs.declared.ending.Stop.TheVariants as stop
use Rattle.decode_session.specs.Causes.{HasOutCause}
use Rattle.desk.specs.declared.desk.Desk.{Desk}
use Rattle.desk.specs.State.{desk_of, editions_of}
use Rattle.edition_register.specs.declared.editions.Editions.{Editions}
use Rattle.edition_register.specs.declared.register.Over.{Over}
use Rattle.edition_register.specs.declared.start.Start.{Start}
use Rattle.edition_register.specs.Seats.{IsSeat, RegisterSeat, first_of}
use Rattle.edition_register.specs.Starts.{IsStart}
use Rattle.fold_state.specs.Boards.{Slots, is_made_for, memory_of}
use Rattle.live_desk.specs.declared.desk_end.DeskEnd.{DeskEnd}
use Rattle.live_desk.specs.Lines.{HandsOn}
use Rattle.live_desk.specs.Scripts.{HasDeskCause, HasRepliesCause, fails_to_reply}
use Rattle.mib_model.specs.declared.database.Database.{Database}
use Rattle.mib_model.specs.declared.meaning.MadeFor as MadeFor
use Rattle.mib_model.specs.declared.meaning.Rows as Rows
use Rattle.run_model.specs.declared.register.Answer.{Answer}
use Rattle.run_model.specs.declared.register.Entry.{Entry}
use Rattle.run_model.specs.declared.register.Register.{Register}
use Rattle.run_model.specs.Desk.{desk_start}
use Rattle.mib_model.specs.Kept.{empty_memory}
use Rattle.run_model.specs.RegisterHistories.{RegisterHistory}
use Rattle.packet_run.specs.declared.stock.Stock.{Stock}
use Rattle.packet_run.specs.Runs.{Runs}
use Rattle.packet_run.specs.Stocks.{IsFresh, rooms_out}
use Rattle.packet_run.specs.Told.{Member, begun}
use Rattle.struct_plan.specs.declared.structure.Structures as Structures
use Rattle.tool_objects.specs.Objects.{ShelfView, SinkView}
use Rattle.tool_objects.specs.Told.{HasTurned}
use Rattle.turn_cell.specs.declared.rule.About.{About}
use Rattle.turn_cell.specs.declared.turn.Lock.{Lock}
use Rattle.turn_cell.specs.declared.view.View.{View}
use Rattle.turn_cell.specs.Seats.{own_moves}

-- the first edition waits for its run with a board that keeps nothing, and no run was made with the stock
pub record IsReady {E : Type 0} {plans : Structures.Ghosts E} (tables : E → Database) (first : Database) (start : Option (Start E Slots)) (stock : Stock E plans) : Type 0 where
  pub begins : IsSomeAnd start (λ start. IsStart tables is_made_for first start × (memory_of start.board ≡ empty_memory))
  pub fresh : IsFresh stock
  pub home : rooms_out stock ≡ 0

module _ {E B P Q : Type 0} {rows : Rows.Ghosts E} {boards : MadeFor.Ghosts B} where
  -- an intake has its seat at the register and has stamped nothing, and its run is ready
  pub record IsIntakeReady {plans : Structures.Ghosts E} (register : Over (Lock P (View Register Entry Answer) (About (Editions E B rows boards)) Q))
      (seat : RegisterSeat P) (start : Option (Start E Slots)) (stock : Stock E plans) : Type 0 where
    pub seated : IsSeat 0 register seat
    pub unused : own_moves seat ≡ []
    pub ready : IsReady rows.tables (first_of register) start stock

  -- a desk has its seat at the register and has entered nothing; its draft is edition 1, the one edition that it has
  pub record IsDeskReady (register : Over (Lock P (View Register Entry Answer) (About (Editions E B rows boards)) Q))
      (seat : RegisterSeat P) (desk : Desk) : Type 0 where
    pub seated : IsSeat 1 register seat
    pub unused : own_moves seat ≡ []
    pub draft : desk_of desk ≡ desk_start (first_of register)
    pub editions : editions_of desk ≡ first_of register ∷ []

module _ {W : Type 0} (stands : W → List Member → Type 0) where
  -- an intake took in the packets of a feed: what it read and wrote, and what its watch was told; the output failed where its count rose, and else
  -- all that was written is handed on; the feed keeps its files, and no turn to one failed
  pub record TakesIn {F O : Type 0} (ended : Result RunEnd RunFault) (first : Database) (own : RegisterHistory) (feed : ShelfView F) (out : SinkView O)
      (watch watched : W) : Type 0 where
    pub runs : Runs stands ended (begun first watch (out.written out.before)) own (feed.faults feed.before) (feed.faults feed.now)
        (feed.left feed.before) (feed.left feed.now) watched (out.written out.now)
    pub out_cause : HasOutCause ended (out.faults out.before) (out.faults out.now)
    pub handed : ended ≢ Err (fault.Print stop.Out) → out.handed out.now ≡ out.written out.now
    pub holds : feed.holds feed.now ≡ feed.holds feed.before
    pub turned : HasTurned feed

-- of a desk that ended so, or not, an object failed where its count rose; where all that was replied was handed on before, all that is replied now is, unless
-- the replies failed
pub record HasDeskCauses {D P : Type 0} (end : Option DeskEnd) (script : ShelfView D) (replies : SinkView P) : Type 0 where
  pub script_cause : HasDeskCause end (script.faults script.before) (script.faults script.now)
  pub replies_cause : HasRepliesCause end (replies.faults replies.before) (replies.faults replies.now)
  pub handed : HandsOn (fails_to_reply end) replies.written replies.handed replies.before replies.now
