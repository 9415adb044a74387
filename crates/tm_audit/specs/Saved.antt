-- The tables that a script saves. [This profile.]
use Rattle.std.specs.Prelude.{ℕ, false, List, fold}
use Rattle.mib_model.specs.declared.database.Database.{Database}
use Rattle.run_model.specs.declared.register.Register.{Register}
use Rattle.run_model.specs.Desk.{DeskState, Way, Done, Ask, desk_start}
use Rattle.run_model.specs.DeskLines.{request_of}
use Rattle.run_model.specs.DeskWays.{way_of}
use Rattle.run_model.specs.Register.{opening, answer_to, after}
use Rattle.run_model.specs.Script.{script}

-- a desk, and the register that its lines alone move
pub record Desked : Type 0 where
  pub register : Register
  pub desk : DeskState

-- where a way leads whose entries a register answers
unfoldable pub led : Register → Way → Desked
led register (Done reply desk) = record { register = register; desk = desk }
led register (Ask entry on) = led (after register entry) (on (answer_to register entry))

-- what a line of the script makes of a desk; want of memory refuses nothing
abbrev pub after_line : Desked → List ℕ → Desked
after_line d line = led d.register (way_of false d.desk (request_of false line))

-- a desk before its first line
abbrev pub before_lines : Database → Desked
before_lines first = record { register = opening first; desk = desk_start first }

-- the tables of the editions that a script saves, behind those of edition 1
unfoldable pub saved_tables : Database → List ℕ → List Database
saved_tables first octets = (fold after_line (before_lines first) (script octets)).register.editions
