-- What a start is, and what stands for an activation that waits. [This profile.]
use Rattle.std.specs.Prelude.{◌≡◌, ◌≤◌, ◌+◌, ◌-◌, ℕ, Bool, true, List, [], ◌∷◌, length, ⊤}
use Rattle.std.specs.Arc.{arc_value}
use Rattle.std.specs.Coded.{×_prop, Unit-prop, le_prop, Coded, Coded-set, codes, coded_bool}
use Rattle.std.specs.List.{slice_index_or, AllByRecursion, AllByRecursion-prop}
use Rattle.run_model.specs.declared.register.Scheduled.{Scheduled}
use Rattle.mib_model.specs.declared.database.Database.{Database}
use Rattle.mib_model.specs.Database.{no_rows}
use Rattle.edition_register.specs.declared.start.Pending.{Pending}
use Rattle.edition_register.specs.declared.start.Start.{Start}

-- the packets from which activations begin rise, from this one on
abbrev pub Rises : ℕ → List Scheduled → Type 0
Rises low [] = ⊤
Rises low (pair ∷ pairs) = (low ≤ pair.from) × Rises (pair.from + 1) pairs

-- there is one way at most in which they rise
pub Rises-prop : (low : ℕ) (pairs : List Scheduled) → IsProp (Rises low pairs)
Rises-prop low [] = Unit-prop
Rises-prop low (pair ∷ pairs) = ×_prop le_prop (Rises-prop (pair.from + 1) pairs)

module _ {E B : Type 0} where
  -- the packet from which a pending activation begins, and its edition
  abbrev pub pair_of : Pending E B → Scheduled
  pair_of p = record { from = p.from; edition = p.edition }

module _ {E B : Type 0} (tables : E → Database) (made_for : Database → B → Bool) where
  -- its handle has these tables, and its board was made for them
  abbrev pub IsStart : Database → Start E B → Type 0
  IsStart t start = (tables (arc_value start.handle) ≡ t) × (made_for t start.board ≡ true)

  -- its edition stands among these, and its start has the tables of it
  abbrev pub IsReady : List Database → Pending E B → Type 0
  IsReady editions p = ((1 ≤ p.edition) × (p.edition ≤ length editions)) × IsStart (slice_index_or editions (p.edition - 1) no_rows) p.start

  -- each is ready
  abbrev pub AllReady : List Database → List (Pending E B) → Type 0
  AllReady editions waiting = AllByRecursion (IsReady editions) waiting

-- tables are plain data, so they are the same in one way at most
pub tables-code : Coded Database
tables-code = hlevel codes

module _ {E B : Type 0} (tables : E → Database) (made_for : Database → B → Bool) where
  IsStart-prop : (t : Database) (start : Start E B) → IsProp (IsStart tables made_for t start)
  IsStart-prop t start = ×_prop (Coded-set tables-code (tables (arc_value start.handle)) t) (Coded-set coded_bool (made_for t start.board) true)

  IsReady-prop : (editions : List Database) (p : Pending E B) → IsProp (IsReady tables made_for editions p)
  IsReady-prop editions p =
      ×_prop (×_prop le_prop le_prop) (IsStart-prop (slice_index_or editions (p.edition - 1) no_rows) p.start)

  -- there is one way at most in which all are ready
  pub AllReady-prop : (editions : List Database) (waiting : List (Pending E B)) → IsProp (AllReady tables made_for editions waiting)
  AllReady-prop editions waiting = AllByRecursion-prop (IsReady tables made_for editions) (IsReady-prop editions) waiting
