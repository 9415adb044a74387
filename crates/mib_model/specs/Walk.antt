-- The values of a packet of variable structure, as a walk over the structure's rows.
-- A row is read in this order: its OFFSET moves the cursor; FIXREP repeats the group behind it; else its parameter is
-- found, or the end is NOPARAMETER; there is room for a value, or the end is MANY; its bits are in the packet, or the end
-- is SHORT; then, by the first that the row has: CHOICE goes to another structure, or the end is NOSTRUCTURE; GRPSIZE
-- repeats the group behind it; PIDREF keeps the value for deduced parameters.
-- [SCOS-2000 Database Import ICD, vpd; the order of the tests and the ends are this profile's.]
use Rattle.std.specs.Prelude.{ℕ, zero, suc, max, ◌+◌, ◌*◌, ℤ, pos, negsuc, ◌+ℤ◌, nat_abs, Bool, true, List, [], ◌∷◌, ◌++◌, length, nat_lt, ◌==◌, not, if◌then◌else◌, Option, Some, None, option_and_then, unwrap_or}
use Rattle.mib_model.specs.declared.packet.Ended.{Ended}
use Rattle.mib_model.specs.declared.packet.Ended.TheVariants.{Whole, Short, Many, NoStructure, NoParameter}
use Rattle.mib_model.specs.declared.packet.Value.{Value}
use Rattle.mib_model.specs.declared.rows.VpdRow.{VpdRow}
use Rattle.mib_model.specs.Bits.{raw_number}
use Rattle.mib_model.specs.Database.{Database}
use Rattle.mib_model.specs.Fixed.{most_values}
use Rattle.mib_model.specs.Structures.{structure, subject, Typed, typed, is_yes, times, group_repeated, moved_by}

-- a walk: the rows still to walk, the bit that it stands at, the last PIDREF value, and the values so far
pub record Walking : Type 0 where
  pub todo : List VpdRow
  pub cursor : ℤ
  pub last : ℤ
  pub values : List Value

-- what a step comes to: the walk goes on, or it ends with its values
pub data Step : Type 0 where
  Goes : (on : Walking) → Step
  Ends : (ended : Ended) (values : List Value) → Step

-- whether so many bits from a place on lie before the packet or pass its end
abbrev pub lies_outside : List ℕ → ℤ → ℕ → Bool
lies_outside packet (negsuc n) width = true
lies_outside packet (pos at) width = nat_lt (8 * length packet) (at + width)

-- the step of a choice: into the structure of its raw value, where there is one
abbrev pub chosen : Walking → ℤ → List VpdRow → Step
chosen on v [] = Ends (NoStructure v) on.values
chosen on v (row ∷ rows) = Goes (record on { todo = row ∷ rows })

-- the step after a value: by the first of choice, group and reference that the row has
abbrev pub after_value : Database → VpdRow → List VpdRow → ℤ → Walking → Step
after_value db row rest v on =
    if is_yes row.choice then chosen on v (structure db v)
    else if not (row.grpsize == 0) then Goes (record on { todo = group_repeated row.grpsize (times v) rest })
    else if is_yes row.pidref then Goes (record on { last = v })
    else Goes on

-- the walk behind a value of a parameter at a bit
abbrev pub with_value : List VpdRow → Walking → ℤ → ℕ → Typed → Walking
with_value rest w raw at t = record {
  todo = rest;
  cursor = pos (at + moved_by t);
  last = w.last;
  values = w.values ++ record { name = t.0.name; at = at; raw = raw; shape = t.1 } ∷ [];
}

-- the step of a value of a parameter at a bit
abbrev pub give_value : Database → List ℕ → VpdRow → List VpdRow → Walking → ℕ → Typed → Step
give_value db packet row rest w at t =
    after_value db row rest (raw_number t.1 packet at) (with_value rest w (raw_number t.1 packet at) at t)

-- the step of a row whose parameter is known: a value, where there is room for it and its bits are in the packet
abbrev pub try_value : Database → List ℕ → VpdRow → List VpdRow → Walking → Typed → Step
try_value db packet row rest w t =
    if length w.values == most_values then Ends Many w.values
    else if lies_outside packet w.cursor t.1.width then Ends (Short t.0.name) w.values
    else give_value db packet row rest w (nat_abs w.cursor) t

-- the step of a row by its parameter, where that is known
abbrev pub on_subject : Database → List ℕ → VpdRow → List VpdRow → Walking → Option Typed → Step
on_subject db packet row rest w None = Ends (NoParameter w.last) w.values
on_subject db packet row rest w (Some t) = try_value db packet row rest w t

-- the step of a row behind whose OFFSET the walk stands: one with FIXREP takes no bits and repeats its group
abbrev pub on_row : Database → List ℕ → VpdRow → List VpdRow → Walking → Step
on_row db packet row rest w =
    if not (row.fixrep == 0) then Goes (record w { todo = group_repeated row.grpsize row.fixrep rest })
    else on_subject db packet row rest w (option_and_then typed (subject db w.last row))

-- one step of a walk with these rows still to walk
abbrev pub step_from : Database → List ℕ → Walking → List VpdRow → Step
step_from db packet w [] = Ends Whole w.values
step_from db packet w (row ∷ rest) = on_row db packet row rest (record w { cursor = w.cursor +ℤ row.offset })

-- one step of a walk: the next row, or the end
unfoldable pub step : Database → List ℕ → Walking → Step
step db packet w = step_from db packet w w.todo

-- the values of a packet and how they end
abbrev pub Extracted : Type 0
Extracted = List Value × Ended

-- what a step gives: the walk goes on, or its values
abbrev pub on_step : (Walking → Option Extracted) → Step → Option Extracted
on_step go (Goes on) = go on
on_step go (Ends ended values) = Some (values, ended)

-- what a walk gives that ends within so many steps
unfoldable pub walked : Database → List ℕ → ℕ → Walking → Option Extracted
walked db packet zero w = None
walked db packet (suc steps) w = on_step (λ on. walked db packet steps on) (step db packet w)

-- the start: all rows of the structure, behind the primary header and DFHSIZE octets
abbrev pub walk_start : Database → ℤ → ℕ → Walking
walk_start db tpsd dfhsize = record { todo = structure db tpsd; cursor = pos (8 * (6 + dfhsize)); last = pos 0; values = [] }

-- the steps within which each walk over a sound database ends: each row is met at most once before each value and the end
abbrev pub walk_limit : Database → ℕ
walk_limit db = (most_values + 1) * max 1 (length db.vpd)

-- the values of a packet of a structure, and how they end
unfoldable pub structure_values : Database → ℤ → ℕ → List ℕ → Extracted
structure_values db tpsd dfhsize packet = unwrap_or (walked db packet (walk_limit db) (walk_start db tpsd dfhsize)) ([], Whole)
