-- A walk over the rows of structures whose values come from any source: a packet, or numbers that are laid. The rows are read
-- as mib_model's walk reads them. [This profile.]
use Rattle.std.specs.Prelude.{◌≡◌, ℕ, zero, suc, ◌+◌, ℤ, pos, ◌+ℤ◌, nat_abs, List, [], ◌∷◌, ◌++◌, length, ◌==◌, not, if◌then◌else◌, Option, Some, None, option_map, option_and_then, Result, Ok, Err}
use Rattle.mib_model.specs.declared.database.Database.{Database}
use Rattle.mib_model.specs.declared.packet.Ended.TheVariants.{Whole, Short, Many, NoParameter}
use Rattle.mib_model.specs.declared.packet.Value.{Value}
use Rattle.mib_model.specs.declared.rows.VpdRow.{VpdRow}
use Rattle.mib_model.specs.Fixed.{most_values, value_at}
use Rattle.mib_model.specs.Soundness.{IsSound}
use Rattle.mib_model.specs.Structures.{Typed, typed, subject, group_repeated, moved_by}
use Rattle.mib_model.specs.Walk.{Walking, Step, Goes, Ends, after_value, lies_outside, walk_limit, walk_start, walked}
use Rattle.struct_plan.specs.declared.entry.ValueField.{ValueField}
use Rattle.struct_plan.specs.declared.numbers.WalkEnd.{WalkEnd}
use Rattle.struct_plan.specs.declared.numbers.WalkEnd.TheVariants.{Ended}
use Rattle.struct_plan.specs.Entries.{field_of}

-- where a walk has its values from: at a cursor, of a field, behind so many others, a value or why there is none
abbrev pub Source : Type 0
Source = ℤ → ValueField → ℕ → Result Value WalkEnd

-- the values of a packet
abbrev pub of_packet : List ℕ → Source
of_packet packet cursor field given =
    if lies_outside packet cursor field.shape.width then Err (Ended (Short field.name))
    else Ok (value_at packet (record { name = field.name; at = nat_abs cursor; shape = field.shape }))

-- what a row comes to: a step, or that the source has no value
pub data Move : Type 0 where
  Steps : (step : Step) → Move
  Halts : (why : WalkEnd) (values : List Value) → Move

-- a row's value: behind it the walk goes on as the row says
abbrev pub on_given : Database → VpdRow → List VpdRow → Walking → Typed → Result Value WalkEnd → Move
on_given db row rest w t (Err why) = Halts why w.values
on_given db row rest w t (Ok v) =
    Steps (after_value db row rest v.raw (record { todo = rest; cursor = pos (v.at + moved_by t); last = w.last; values = w.values ++ v ∷ [] }))

-- a row whose parameter is known: a value, where there is room for it and the source has one
abbrev pub try_by : Database → Source → VpdRow → List VpdRow → Walking → Typed → Move
try_by db source row rest w t =
    if length w.values == most_values then Steps (Ends Many w.values)
    else on_given db row rest w t (source w.cursor (field_of t) (length w.values))

-- a row by its parameter, where that is known
abbrev pub on_subject_by : Database → Source → VpdRow → List VpdRow → Walking → Option Typed → Move
on_subject_by db source row rest w None = Steps (Ends (NoParameter w.last) w.values)
on_subject_by db source row rest w (Some t) = try_by db source row rest w t

-- a row behind whose OFFSET the walk stands
abbrev pub on_row_by : Database → Source → VpdRow → List VpdRow → Walking → Move
on_row_by db source row rest w =
    if not (row.fixrep == 0) then Steps (Goes (record w { todo = group_repeated row.grpsize row.fixrep rest }))
    else on_subject_by db source row rest w (option_and_then typed (subject db w.last row))

-- the next of these rows, which are still to walk
abbrev pub move_from : Database → Source → Walking → List VpdRow → Move
move_from db source w [] = Steps (Ends Whole w.values)
move_from db source w (row ∷ rest) = on_row_by db source row rest (record w { cursor = w.cursor +ℤ row.offset })

-- the next row, or the end
unfoldable pub move : Database → Source → Walking → Move
move db source w = move_from db source w w.todo

-- values, and why they end
abbrev pub Walked : Type 0
Walked = List Value × WalkEnd

-- what a step gives: the walk goes on, or its values
abbrev pub on_step_by : (Walking → Option Walked) → Step → Option Walked
on_step_by go (Goes on) = go on
on_step_by go (Ends ended values) = Some (values, Ended ended)

-- what a row gives
abbrev pub on_move : (Walking → Option Walked) → Move → Option Walked
on_move go (Steps step) = on_step_by go step
on_move go (Halts why values) = Some (values, why)

-- what a walk gives that ends within so many steps
unfoldable pub walked_by : Database → Source → ℕ → Walking → Option Walked
walked_by db source zero w = None
walked_by db source (suc steps) w = on_move (λ on. walked_by db source steps on) (move db source w)

-- a walk whose values come from a packet is that over the packet
abbrev pub PacketIsSource : Type 0
PacketIsSource =
    (db : Database) (packet : List ℕ) (steps : ℕ) (w : Walking)
    → walked_by db (of_packet packet) steps w ≡ option_map (λ e. (e.0, Ended e.1)) (walked db packet steps w)

-- each walk over a sound database ends within the limit
abbrev pub WalksEnd : Type 0
WalksEnd =
    (db : Database) → IsSound db → (source : Source) (tpsd : ℤ) (dfhsize : ℕ)
    → (e : Walked) × (walked_by db source (walk_limit db) (walk_start db tpsd dfhsize) ≡ Some e)
