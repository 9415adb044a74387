-- What is known of a run of a panel that was opened. [This profile.]
use Rattle.std.specs.Prelude.{◌≡◌, ◌≤◌, ℕ, [], length, map, vec_capacity, None}
use Rattle.std.specs.List.{AllByRecursion}
use Rattle.desk_lines.specs.ToCome.{reading_start}
use Rattle.desk_lines.specs.Reader.{read_to}
use Rattle.edition_register.specs.Panels.{AreDesksFrom}
use Rattle.edition_register.specs.Seats.{IsSeat, first_of}
use Rattle.live_session.specs.Sides.{IsReady}
use Rattle.mib_model.specs.declared.database.Database.{Database}
use Rattle.run_model.specs.Desk.{desk_start}
use Rattle.panel_desk.specs.State.{panel_state}
use Rattle.panel_session.specs.declared.opening.PanelRun.{PanelRun}
use Rattle.panel_session.specs.declared.side.DeskSide.{DeskSide}
use Rattle.turn_cell.specs.Seats.{own_moves}

-- a desk's draft is edition 1, and nothing of its script was read
pub record IsNewSide (first : Database) (side : DeskSide) : Type 0 where
  pub draft : panel_state side.desk ≡ desk_start first
  pub unread : read_to side.read ≡ reading_start
  pub going : side.end ≡ None

-- the tables with which it begins
abbrev pub first_in : PanelRun → Database
first_in run = first_of run.register

-- its intake and each of so many desks have their seats at its register, and none has done anything yet
pub record IsOpened (desks : ℕ) (run : PanelRun) : Type 0 where
  pub intake : IsSeat 0 run.register run.intake.seat
  pub unused : own_moves run.intake.seat ≡ []
  pub ready : IsReady (λ edition. edition) (first_in run) run.intake.first run.intake.stock
  pub seats : AreDesksFrom 1 run.register (map (λ side. side.seat) run.sides.items)
  pub unmoved : AllByRecursion (λ seat. own_moves seat ≡ []) (map (λ side. side.seat) run.sides.items)
  pub many : length run.sides.items ≡ desks
  pub new : AllByRecursion (IsNewSide (first_in run)) run.sides.items
  pub room : (run.room.items ≡ []) × (desks ≤ vec_capacity run.room)
