-- A place among the rows of a structure, from row to row.
use Rattle.std.proofs.Common.{◌≡◌, ℕ, zero, suc, ◌+◌, ◌-◌, ◌*◌, ◌<◌, inl, inr, ◌≤◌, ℤ, nat_lt, nat_eq, Bool, true, false, cond, List, [], ◌∷◌, length, take, Option, Some, None, refl, sym, ap, subst, ◌∙◌, arith}
use Rattle.std.proofs.lemmas.Bool.{eqb-true}
use Rattle.std.proofs.lemmas.List.{drop_all}
use Rattle.std.proofs.Math.Nat.{suc-mul}
use Rattle.mib_model.specs.declared.packet.Ended.TheVariants as ended
use Rattle.struct_plan.proofs.CourseFacts.{gives-none, gives-todo}
use Rattle.std.specs.List.{cons_option}
use Rattle.mib_model.specs.declared.database.Database.{Database}
use Rattle.mib_model.specs.declared.packet.Value.{Value}
use Rattle.mib_model.specs.declared.rows.VpdRow.{VpdRow}
use Rattle.mib_model.specs.Fixed.{most_values}
use Rattle.mib_model.specs.Structures.{times, group_repeated}
use Rattle.struct_plan.specs.declared.numbers.WalkEnd.TheVariants.{Ended}
use Rattle.struct_plan.specs.Sources.{Source, Walked, walked_by}
use Rattle.mib_laws.proofs.LimitFacts.{structure-rows}
use Rattle.mib_laws.proofs.Nesting.{Nested}
use Rattle.mib_laws.proofs.SoundStructures.{structures-good}
use Rattle.struct_plan.specs.declared.course.WalkCourse.{WalkCourse}
use Rattle.struct_plan.specs.declared.group.RowGroup.{RowGroup}
use Rattle.struct_plan.specs.Courses.{Gives, IsFurther, IsStructure, walking}
use Rattle.struct_plan.specs.Groups.{size_at, end_of, still_to_walk, Enclose, Ahead, IsOfRows, rounds, entered, entered_at, settled, settled_at}
use Rattle.struct_plan.specs.Slices.{StructureRows}
use Rattle.struct_plan.proofs.GroupFacts.{ahead-length, enclose-length, enclose-take, entered-still, entered-enclose, settled-still, settled-enclose, settled-ahead}
use Rattle.struct_plan.proofs.KnownFacts.{innermost-suffice, rounds-suffice}

-- a structure of a sound database is nested
pub structure-nested : (db : Database) (rows : StructureRows) → IsStructure db rows → Nested rows.vpds
structure-nested db rows is =
    let (tpsd, same) = is.of_rows in
    let nested = (structures-good db is.sound (length db.vpd) (structure-rows db) tpsd).nested in
    subst Nested (sym (ap (λ (r : StructureRows). r.vpds) same)) nested

-- groups round a place are of the rows
pub enclose-rows : (rows : List VpdRow) (low high : ℕ) (gs : List RowGroup) → Enclose rows low high gs → IsOfRows rows gs
enclose-rows rows low high [] around = tt
enclose-rows rows low high (g ∷ gs) around = (enclose-length rows g.row (end_of rows g) gs around.4, around.3)

-- as many of the groups as matter
pub gives-innermost : (db : Database) (source : Source) (end : Walked) (rows : List VpdRow) (course : WalkCourse) (values : List Value) (at : ℕ) (gs gs' : List RowGroup) → Nested rows → Enclose rows at at gs → length values ≤ most_values → gs' ≡ take (most_values - length values + 1) gs
    → Gives db source end (walking (still_to_walk rows at gs) course values) → Gives db source end (walking (still_to_walk rows at gs') course values)
gives-innermost db source end rows course values at gs gs' nested around few is (steps, gives) =
    let same = innermost-suffice rows nested db source (most_values - length values + 1) steps at gs (walking [] course values) around few (omega (arith, few)) in
    (steps, ap (λ (hs : List RowGroup). walked_by db source steps (walking (still_to_walk rows at hs) course values)) is ∙ (sym same ∙ gives))

-- a group that is walked as often as matters
pub gives-rounds : (db : Database) (source : Source) (end : Walked) (rows : List VpdRow) (course : WalkCourse) (values : List Value) (at size : ℕ) (raw : ℤ) (gs : List RowGroup) → Nested rows → size ≡ size_at rows at → 0 < size → Enclose rows at (at + 1 + size) gs → length values ≤ most_values
    → Gives db source end (walking (group_repeated size (times raw) (still_to_walk rows (at + 1) gs)) course values) → Gives db source end (walking (group_repeated size (rounds raw) (still_to_walk rows (at + 1) gs)) course values)
gives-rounds db source end rows course values at size raw gs nested sized some around few (steps, gives) =
    let some_at : 0 < size_at rows at = omega (arith, sized, some) in
    let around_at : Enclose rows at (at + 1 + size_at rows at) gs = subst (λ s. Enclose rows at (at + 1 + s) gs) sized around in
    let same = rounds-suffice rows nested db source (times raw) (most_values + 1) steps at gs (walking [] course values) some_at around_at few (omega arith) in (
      steps,
      ap (λ s. walked_by db source steps (walking (group_repeated s (rounds raw) (still_to_walk rows (at + 1) gs)) course values)) sized ∙
          (sym same ∙ (ap (λ s. walked_by db source steps (walking (group_repeated s (times raw) (still_to_walk rows (at + 1) gs)) course values)) (sym sized) ∙ gives)),
    )

not-none : (n : ℕ) (b : Bool) → nat_eq n 0 ≡ b → 0 < n → b ≡ false
not-none n false is some = refl
not-none n true is some = let none = eqb-true n 0 is in absurd (omega (arith, none, some))

-- a place where the walk goes on
module _ (rows : List VpdRow) (at n count : ℕ) (gs gs' : List RowGroup) (some : 0 < size_at rows at) (around : Enclose rows at (at + 1 + size_at rows at) gs) (is' : gs' ≡ take n (entered at count gs)) where
  abbrev next : ℕ
  next = entered_at at (size_at rows at) count

  pub entered-around : Enclose rows next next gs'
  entered-around = subst (Enclose rows next next) (sym is') (enclose-take rows n next next (entered at count gs) (entered-enclose rows at gs around some count))

  pub entered-gives : (db : Database) (source : Source) (end : Walked) (course : WalkCourse) (values : List Value) → Nested rows → length values ≤ most_values → n ≡ most_values - length values + 1
      → Gives db source end (walking (group_repeated (size_at rows at) count (still_to_walk rows (at + 1) gs)) course values) → Gives db source end (walking (still_to_walk rows next gs') course values)
  entered-gives db source end course values nested few room gives =
      gives-innermost db source end rows course values next (entered at count gs) gs' nested (entered-enclose rows at gs around some count) few
      (is' ∙ ap (λ k. take k (entered at count gs)) room)
      (subst (λ todo. Gives db source end (walking todo course values)) (sym (entered-still rows at gs around count)) gives)

  ahead-next : (hs : List RowGroup) → Enclose rows at (at + 1 + size_at rows at) hs → Ahead rows (at + 1) hs
  ahead-next [] within = omega (arith, within)
  ahead-next (h ∷ hs) within = let b = within.1 in omega (arith, b, some)

  ahead-first : (m : ℕ) (hs : List RowGroup) → 0 < m → Ahead rows (at + 1) hs → Ahead rows (at + 1) (take m hs)
  ahead-first zero hs more ahead = absurd (omega (arith, more))
  ahead-first (suc m) [] more ahead = ahead
  ahead-first (suc m) (h ∷ hs) more ahead = ahead

  ahead-chosen : (b : Bool) (left : ℕ) → Ahead rows (at + 1) (cond b (record { row = at; left = left } ∷ gs) gs)
  ahead-chosen true left = omega (arith, some)
  ahead-chosen false left = ahead-next gs around

  -- behind the row of a group that is walked at least once
  pub next-place : (k : ℕ) → count ≡ suc k → next ≡ at + 1
  next-place k is =
      let some : nat_eq count 0 ≡ false = not-none count (nat_eq count 0) refl (omega (arith, is)) in
      ap (λ b. cond b (at + 1 + size_at rows at) (at + 1)) some

  pub entered-ahead : (k : ℕ) → count ≡ suc k → 0 < n → Ahead rows next gs'
  entered-ahead k is more =
      let here : Ahead rows (at + 1) (take n (entered at count gs)) = ahead-first n (entered at count gs) more (ahead-chosen (nat_lt 1 count) (count - 1)) in
      subst (Ahead rows next) (sym is') (subst (λ m. Ahead rows m (take n (entered at count gs))) (sym (next-place k is)) here)

-- a place that was settled
module _ (rows : List VpdRow) (at at' : ℕ) (gs gs' : List RowGroup) (around : Enclose rows at at gs) (there : at' ≡ settled_at rows at gs) (is : gs' ≡ settled rows at gs) where
  pub settled-todo : still_to_walk rows at' gs' ≡ still_to_walk rows at gs
  settled-todo =
      ap (λ n. still_to_walk rows n gs') there ∙ (ap (λ (hs : List RowGroup). still_to_walk rows (settled_at rows at gs) hs) is ∙ settled-still rows at gs around)

  pub settled-around : Enclose rows at' at' gs'
  settled-around =
      subst (λ n. Enclose rows n n gs') (sym there) (subst (λ (hs : List RowGroup). Enclose rows (settled_at rows at gs) (settled_at rows at gs) hs) (sym is) (settled-enclose rows at gs around))

  pub settled-before : Ahead rows at' gs'
  settled-before =
      subst (λ n. Ahead rows n gs') (sym there) (subst (λ (hs : List RowGroup). Ahead rows (settled_at rows at gs) hs) (sym is) (settled-ahead rows at gs around))

-- a place behind the row of a group
module _ (rows : List VpdRow) (at at' size used count : ℕ) (gs gs' : List RowGroup) (sized : size ≡ size_at rows at) (some : 0 < size) (around : Enclose rows at (at + 1 + size) gs) (there : at' ≡ entered_at at size count) (is : gs' ≡ take (most_values - used + 1) (entered at count gs)) where
  some_at : 0 < size_at rows at
  some_at = omega (arith, sized, some)

  around_at : Enclose rows at (at + 1 + size_at rows at) gs
  around_at = subst (λ s. Enclose rows at (at + 1 + s) gs) sized around

  there_at : at' ≡ entered_at at (size_at rows at) count
  there_at = there ∙ ap (λ s. entered_at at s count) sized

  pub behind-around : Enclose rows at' at' gs'
  behind-around = subst (λ m. Enclose rows m m gs') (sym there_at) (entered-around rows at (most_values - used + 1) count gs gs' some_at around_at is)

  pub behind-gives : (db : Database) (source : Source) (end : Walked) (course : WalkCourse) (values : List Value) → Nested rows → used ≤ most_values → length values ≡ used
      → Gives db source end (walking (group_repeated size count (still_to_walk rows (at + 1) gs)) course values) → Gives db source end (walking (still_to_walk rows at' gs') course values)
  behind-gives db source end course values nested few same gives =
      let room : most_values - used + 1 ≡ most_values - length values + 1 = omega (arith, same) in
      subst (λ m. Gives db source end (walking (still_to_walk rows m gs') course values)) (sym there_at)
      (entered-gives rows at (most_values - used + 1) count gs gs' some_at around_at is db source end course values nested (omega (arith, same, few)) room
      (subst (λ s. Gives db source end (walking (group_repeated s count (still_to_walk rows (at + 1) gs)) course values)) sized gives))

  pub behind-ahead : (k : ℕ) → count ≡ suc k → Ahead rows at' gs'
  behind-ahead k one = subst (λ m. Ahead rows m gs') (sym there_at) (entered-ahead rows at (most_values - used + 1) count gs gs' some_at around_at is k one (omega arith))

take_none : (n : ℕ) → let none : List RowGroup = [] in take n none ≡ none
take_none zero = refl
take_none (suc n) = refl

-- where none were kept, none are when a value was given
pub none-given : (kept kept' : List RowGroup) (room : ℕ) → kept ≡ [] → kept' ≡ take room kept → kept' ≡ []
none-given kept kept' room none is = is ∙ (ap (take room) none ∙ take_none room)

-- the groups round a place when a value was given: as many as matter
pub groups-given : (o : Option RowGroup) (kept kept' : List RowGroup) (room : ℕ) → (o ≡ None → kept ≡ []) → kept' ≡ take room kept → cons_option o kept' ≡ take (room + 1) (cons_option o kept)
groups-given None kept kept' room alone is =
    let none : kept ≡ [] = alone refl in
    none-given kept kept' room none is ∙ sym (ap (take (room + 1)) none ∙ take_none (room + 1))
groups-given (Some g) kept kept' room alone is =
    let more : room + 1 ≡ suc room = omega arith in
    ap (λ (gs : List RowGroup). g ∷ gs) is ∙ ap (λ n. take n (g ∷ kept)) (sym more)

-- where no row is left
pub gives-whole : (db : Database) (source : Source) (end : Walked) (rows : List VpdRow) (course : WalkCourse) (values : List Value) (at : ℕ) (gs : List RowGroup) → Enclose rows at at gs → Ahead rows at gs → length rows ≤ at
    → Gives db source end (walking (still_to_walk rows at gs) course values) → (values, Ended ended.Whole) ≡ end
gives-whole db source end rows course values at gs around before past gives =
    let within = enclose-length rows at at gs around in
    let none : gs ≡ [] = ahead-length rows at gs before around (omega (arith, within, past)) in
    let todo : still_to_walk rows at gs ≡ [] = ap (still_to_walk rows at) none ∙ drop_all at rows past in
    gives-none db source end course values (gives-todo db source end (still_to_walk rows at gs) [] course values todo gives)

-- fewer steps are left behind a row: it gave a value, or the next row is further on
pub fewer-left : (most used used' at at' rows : ℕ) → IsFurther used at used' at' → used' ≤ most → at < rows → (most - used') * rows + (rows - at') < (most - used) * rows + (rows - at)
fewer-left most used used' at at' rows (inl (same, further)) few lt = rw same (omega (arith, further, lt))
fewer-left most used used' at at' rows (inr more) few lt =
    let one : most - used ≡ suc (most - used') = omega (arith, more, few) in
    let all : (most - used) * rows ≡ (most - used') * rows + rows = ap (λ n. n * rows) one ∙ suc-mul (most - used') rows in
    omega (arith, all, lt)

pub later : {first used used' at at' : ℕ} → first ≤ used → IsFurther used at used' at' → first ≤ used'
later le (inl (same, further)) = omega (arith, le, same)
later le (inr more) = omega (arith, le, more)
