-- What contracts see of a draft. [This profile.]
use Rattle.std.specs.Prelude.{ℕ}
use Rattle.mib_model.specs.declared.database.Database.{Database}
use Rattle.run_model.specs.Desk.{DeskState}

-- the tables of a draft, and those that it was made from
pub record Drafted : Type 0 where
  pub book : Database
  pub base : Database

-- a draft of these tables that isn't edited
abbrev pub drafted_from : Database → Drafted
drafted_from tables = record { book = tables; base = tables }

-- the state of a desk with a draft that was made from the edition of this number
abbrev pub state_by : ℕ → Drafted → DeskState
state_by edition draft = record { draft = draft.book; base = draft.base; edition = edition }
