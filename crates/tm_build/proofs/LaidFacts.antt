-- Values that are laid of items fit their fields.
use Rattle.std.proofs.Common.{◌≡◌, ◌∙◌, ℕ, zero, suc, ◌+◌, ℤ, pos, negsuc, ◌+ℤ◌, Bool, true, false, not, cond, nat_eq, List, [], ◌∷◌, ◌++◌, length, Option, Some, None, Result, Ok, Err, option_and_then, unwrap_or, refl, sym, ap, subst}
use Rattle.std.specs.List.{AllByRecursion}
use Rattle.std.specs.Prelude.{slice_get}
use Rattle.std.proofs.lemmas.Option.{none-some}
use Rattle.mib_model.specs.declared.database.Database.{Database}
use Rattle.mib_model.specs.declared.packet.Ended.TheVariants as ended
use Rattle.mib_model.specs.declared.packet.Value.{Value}
use Rattle.mib_model.specs.declared.rows.PidRow.{PidRow}
use Rattle.mib_model.specs.declared.rows.VpdRow.{VpdRow}
use Rattle.mib_model.specs.Attempts.{◌>>=◌}
use Rattle.mib_model.specs.Encodings.{Encoding}
use Rattle.mib_model.specs.Fixed.{Place, most_values, has_layout, places}
use Rattle.mib_model.specs.Structures.{Typed, typed, subject, structure, group_repeated, moved_by, times, is_yes}
use Rattle.mib_model.specs.Walk.{Walking, Step, Goes, Ends, after_value, chosen, walk_limit, walk_start}
use Rattle.mib_laws.proofs.Choices.{choice}
use Rattle.struct_plan.specs.declared.entry.ValueField.{ValueField}
use Rattle.struct_plan.specs.declared.numbers.WalkEnd.{WalkEnd}
use Rattle.struct_plan.specs.declared.numbers.WalkEnd.TheVariants.{Ended, Unfit}
use Rattle.struct_plan.specs.Entries.{field_of}
use Rattle.struct_plan.specs.Sources.{Source, Walked, Move, Steps, Halts, move, move_from, on_given, on_move, on_row_by, on_subject_by, try_by, walked_by}
use Rattle.build_rules.specs.declared.fault.BuildFault.{BuildFault}
use Rattle.build_rules.specs.declared.item.Item.{Item}
use Rattle.build_rules.specs.Laying.{behind_value, fault_at, field_there, fits, laid, of_items, raw_of, unless_fault, value_if_fit, value_laid, values_by, values_from}

-- a value whose raw number is one of its encoding
abbrev pub IsFit : Value → Type 0
IsFit v = fits v.shape v.raw ≡ true

-- ---- one value

fit-if : (name : List ℕ) (shape : Encoding) (at : ℕ) (raw : ℤ) (v : Value) (b : Bool) → fits shape raw ≡ b → cond b (Ok (record { name = name; at = at; raw = raw; shape = shape })) (Err Unfit) ≡ Ok v → IsFit v
fit-if name shape at raw v false is h = absurd (cc h)
fit-if name shape at raw v true is h =
    let same : ◌≡◌ {A = Value} (record { name = name; at = at; raw = raw; shape = shape }) v = cc h in subst IsFit same is

fit-laid : (name : List ℕ) (shape : Encoding) (cursor raw : ℤ) (v : Value) → value_laid name shape cursor raw ≡ Ok v → IsFit v
fit-laid name shape (negsuc n) raw v h = absurd (cc h)
fit-laid name shape (pos at) raw v h = fit-if name shape _ raw v (fits shape raw) refl h

fit-raw : (name : List ℕ) (shape : Encoding) (cursor : ℤ) (v : Value) (r : Result ℤ WalkEnd) → (r >>= value_laid name shape cursor) ≡ Ok v → IsFit v
fit-raw name shape cursor v (Err why) h = absurd (cc h)
fit-raw name shape cursor v (Ok raw) h = fit-laid name shape cursor raw v h

item-fit : (items : List Item) (cursor : ℤ) (field : ValueField) (given : ℕ) (v : Value) → of_items items cursor field given ≡ Ok v → IsFit v
item-fit items cursor field given v h = fit-raw field.name field.shape cursor v (raw_of (slice_get items given) field.name) h

-- ---- all values

one-more : (xs : List Value) (v : Value) → AllByRecursion IsFit xs → IsFit v → AllByRecursion IsFit (xs ++ v ∷ [])
one-more [] v all fit = (fit, tt)
one-more (x ∷ xs) v all fit = (all.0, one-more xs v all.1 fit)

module _ (db : Database) (source : Source) (fit : (cursor : ℤ) (field : ValueField) (given : ℕ) (v : Value) → source cursor field given ≡ Ok v → IsFit v) where
  behind-fit : (r : Result Value WalkEnd) (more : Walked) → ((v : Value) → r ≡ Ok v → IsFit v) → AllByRecursion IsFit more.0 → AllByRecursion IsFit (behind_value r more).0
  behind-fit (Err why) more here rest = tt
  behind-fit (Ok v) more here rest = (here v refl, rest)

  either-fit : (b : Bool) (x y : Walked) → AllByRecursion IsFit x.0 → AllByRecursion IsFit y.0 → AllByRecursion IsFit (cond b x y).0
  either-fit true x y fx fy = fx
  either-fit false x y fx fy = fy

  from-fit : (given : ℕ) (all : List Place) → AllByRecursion IsFit (values_from source given all).0
  unfolding values_from
  from-fit given [] = tt
  from-fit given (place ∷ rest) =
      either-fit (nat_eq given most_values) ([], Ended ended.Many) _ tt
      (behind-fit (source (pos place.at) (field_there place) given) (values_from source (given + 1) rest) (λ v is. fit (pos place.at) (field_there place) given v is) (from-fit (given + 1) rest))

  -- a step that leaves values that fit
  Keeps : Step → Type 0
  Keeps (Goes on) = AllByRecursion IsFit on.values
  Keeps (Ends e values) = AllByRecursion IsFit values

  KeepsMove : Move → Type 0
  KeepsMove (Steps s) = Keeps s
  KeepsMove (Halts why values) = AllByRecursion IsFit values

  chosen-keeps : (raw : ℤ) (rows : List VpdRow) (on : Walking) → AllByRecursion IsFit on.values → Keeps (chosen on raw rows)
  unfolding Keeps
  chosen-keeps raw [] on all = all
  chosen-keeps raw (r ∷ rs) on all = all

  after-keeps : (r : VpdRow) (rest : List VpdRow) (raw : ℤ) (on : Walking) → AllByRecursion IsFit on.values → Keeps (after_value db r rest raw on)
  unfolding Keeps
  after-keeps r rest raw on all =
      choice Keeps (is_yes r.choice) (chosen on raw (structure db raw)) _ (λ h. chosen-keeps raw (structure db raw) on all) (λ h.
      choice Keeps (not (nat_eq r.grpsize 0)) (Goes (record on { todo = group_repeated r.grpsize (times raw) rest })) _ (λ i. all) (λ i.
      choice Keeps (is_yes r.pidref) (Goes (record on { last = raw })) (Goes on) (λ j. all) (λ j. all)))

  given-keeps : (r : VpdRow) (rest : List VpdRow) (w : Walking) → AllByRecursion IsFit w.values → (t : Typed) (given : Result Value WalkEnd) → ((v : Value) → given ≡ Ok v → IsFit v) → KeepsMove (on_given db r rest w t given)
  unfolding Keeps KeepsMove
  given-keeps r rest w all t (Err why) here = all
  given-keeps r rest w all t (Ok v) here =
      after-keeps r rest v.raw (record { todo = rest; cursor = pos (v.at + moved_by t); last = w.last; values = w.values ++ v ∷ [] }) (one-more w.values v all (here v refl))

  subject-keeps : (r : VpdRow) (rest : List VpdRow) (w : Walking) → AllByRecursion IsFit w.values → (o : Option Typed) → KeepsMove (on_subject_by db source r rest w o)
  unfolding Keeps KeepsMove
  subject-keeps r rest w all None = all
  subject-keeps r rest w all (Some t) =
      choice KeepsMove (nat_eq (length w.values) most_values) (Steps (Ends ended.Many w.values)) _ (λ h. all)
      (λ h. given-keeps r rest w all t (source w.cursor (field_of t) (length w.values)) (λ v is. fit w.cursor (field_of t) (length w.values) v is))

  from-keeps : (w : Walking) (rows : List VpdRow) → AllByRecursion IsFit w.values → KeepsMove (move_from db source w rows)
  unfolding Keeps KeepsMove
  from-keeps w [] all = all
  from-keeps w (r ∷ rest) all =
      choice KeepsMove (not (nat_eq r.fixrep 0)) (Steps (Goes (record w { cursor = w.cursor +ℤ r.offset; todo = group_repeated r.grpsize r.fixrep rest }))) _ (λ h. all)
      (λ h. subject-keeps r rest (record w { cursor = w.cursor +ℤ r.offset }) all (option_and_then typed (subject db w.last r)))

  on-keeps : (k : ℕ) → ((on : Walking) → AllByRecursion IsFit on.values → AllByRecursion IsFit (unwrap_or (walked_by db source k on) ([], Ended ended.Whole)).0)
      → (m : Move) → KeepsMove m → AllByRecursion IsFit (unwrap_or (on_move (λ on. walked_by db source k on) m) ([], Ended ended.Whole)).0
  unfolding Keeps KeepsMove
  on-keeps k more (Steps (Goes on)) all = more on all
  on-keeps k more (Steps (Ends e values)) all = all
  on-keeps k more (Halts why values) all = all

  walk-fit : (k : ℕ) (w : Walking) → AllByRecursion IsFit w.values → AllByRecursion IsFit (unwrap_or (walked_by db source k w) ([], Ended ended.Whole)).0
  unfolding walked_by move
  walk-fit zero w all = tt
  walk-fit (suc k) w all = on-keeps k (λ on. walk-fit k on) (move db source w) (from-keeps w w.todo all)

  all-fit : (row : PidRow) → AllByRecursion IsFit (values_by db row source).0
  unfolding values_by
  all-fit row =
      either-fit (has_layout row) (values_from source 0 (places db row.spid)) (unwrap_or (walked_by db source (walk_limit db) (walk_start db row.tpsd row.dfhsize)) ([], Ended ended.Whole))
      (from-fit 0 (places db row.spid)) (walk-fit (walk_limit db) (walk_start db row.tpsd row.dfhsize) tt)

values-of : (values other : List Value) (fault : Option BuildFault) → unless_fault values fault ≡ Ok other → values ≡ other
values-of values other None h = cc h
values-of values other (Some fault) h = absurd (cc h)

-- values that items are fit their fields
pub laid-fit : (db : Database) (row : PidRow) (items : List Item) (values : List Value) → laid db row items ≡ Ok values → AllByRecursion IsFit values
laid-fit db row items values is =
    let all = values_by db row (of_items items) in
    subst (AllByRecursion IsFit) (values-of all.0 values (fault_at (length items) (length all.0) all.1) is) (all-fit db (of_items items) (item-fit items) row)
