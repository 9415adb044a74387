-- The parameters that have plans: found by their names among the plans, and each with a slot of a board.
use Rattle.std.proofs.Common.{◌≡◌, ◌∙◌, ℕ, ◌+◌, Bool, true, false, cond, ltb, ◌&&◌, ◌||◌, List, [], ◌∷◌, ◌++◌, length, map, drop, filter, Option, Some, None, option_map, option_and_then, IsSome, refl, sym, ap, subst, inl, inr, arith}
use Rattle.std.proofs.lemmas.Bool.{cases_Bool, cases_lt, false≢true}
use Rattle.std.proofs.lemmas.Bool.Decides.{nat_tests}
use Rattle.std.proofs.lemmas.List.Folds.{list_any-append, list_any_none}
use Rattle.std.proofs.lemmas.List.Sums.{fails_before_first}
use Rattle.std.proofs.lemmas.Slice.Eq.{bytes_eq-Decides}
use Rattle.std.specs.List.{find, flat_map, list_any, position, position_or_len}
use Rattle.std.specs.Str.{bytes_eq}
use Rattle.edition_plans.specs.Params.{param_slices}
use Rattle.fold_state.specs.Boards.{Slots}
use Rattle.param_state.specs.ParamPlans.{is_name_of, plan_names, IsParamsOf, planned}
use Rattle.fold_state.specs.Premises.{HasSlot}
use Rattle.mib_model.specs.declared.database.Database.{Database}
use Rattle.mib_model.specs.declared.fault.MibCode.TheVariants.{Twice}
use Rattle.mib_model.specs.declared.kind.Kind.TheVariants as kind
use Rattle.mib_model.specs.declared.rows.PcfRow.{PcfRow}
use Rattle.mib_model.specs.declared.rows.Row.TheVariants as row
use Rattle.mib_model.specs.Flaws.{Flaw, table_flaws, twice}
use Rattle.mib_model.specs.Keys.{same_key}
use Rattle.mib_model.specs.Kinds.{kinds}
use Rattle.mib_model.specs.Orders.{insert_by, sorted_by}
use Rattle.mib_model.specs.Parameters.{parameter}
use Rattle.mib_model.specs.Plans.{has_plan, may_precede}
use Rattle.mib_model.specs.RowFlaws.{pcf_rules}
use Rattle.mib_model.specs.Soundness.{IsSound, flaws, flaws_of}
use Rattle.mib_laws.proofs.SoundStructures.{append-none, rows-sound, EachRow, NoFlaw}
use Rattle.param_plan.specs.Slices.{ParamSlice, slice_for}
use Rattle.decode_one.specs.Values.{is_planned}

-- ---- what a search finds among items of which at most one passes

-- at most one item passes
Once : {X : Type 0} → (X → Bool) → List X → Type 0
Once p [] = Unit {0}
Once p (x ∷ xs) = (p x ≡ true → list_any p xs ≡ false) × Once p xs

or-swap : (a b c : Bool) → (a || (b || c)) ≡ (b || (a || c))
or-swap true true c = refl
or-swap true false c = refl
or-swap false b c = refl

neither : (a b : Bool) → (a || b) ≡ false → (a ≡ false) × (b ≡ false)
neither true b h = absurd (cc h)
neither false b h = (refl, h)

module _ {X : Type 0} (p : X → Bool) (before : X → X → Bool) where
  any-insert : (x : X) (ys : List X) → list_any p (insert_by before x ys) ≡ (p x || list_any p ys)
  any-insert x [] = refl
  any-insert x (y ∷ ys) = go (before x y) (any-insert x ys) where
    go : (b : Bool) → list_any p (insert_by before x ys) ≡ (p x || list_any p ys) → list_any p (cond b (x ∷ y ∷ ys) (y ∷ insert_by before x ys)) ≡ (p x || (p y || list_any p ys))
    go true others = refl
    go false others = ap (λ b. p y || b) others ∙ or-swap (p y) (p x) (list_any p ys)

  pub any-sorted : (xs : List X) → list_any p (sorted_by before xs) ≡ list_any p xs
  unfolding sorted_by
  any-sorted [] = refl
  any-sorted (x ∷ xs) = any-insert x (sorted_by before xs) ∙ ap (λ b. p x || b) (any-sorted xs)

  -- an item behind one that isn't it, where no other passes
  swapped : (x y : X) (o : Option X) → (p x ≡ true → p y ≡ false) → cond (p y) (Some y) (cond (p x) (Some x) o) ≡ cond (p x) (Some x) (cond (p y) (Some y) o)
  swapped x y o other = go (p x) refl (p y) refl where
    go : (a : Bool) → p x ≡ a → (b : Bool) → p y ≡ b → cond b (Some y) (cond a (Some x) o) ≡ cond a (Some x) (cond b (Some y) o)
    go true h true i = absurd (false≢true (sym (other h) ∙ i))
    go true h false i = refl
    go false h b i = refl

  find-insert : (x : X) (ys : List X) → (p x ≡ true → list_any p ys ≡ false) → find p (insert_by before x ys) ≡ find p (x ∷ ys)
  find-insert x [] one = refl
  find-insert x (y ∷ ys) one = go (before x y) (find-insert x ys (λ h. (neither (p y) (list_any p ys) (one h)).1)) where
    go : (b : Bool) → find p (insert_by before x ys) ≡ find p (x ∷ ys) → find p (cond b (x ∷ y ∷ ys) (y ∷ insert_by before x ys)) ≡ find p (x ∷ y ∷ ys)
    go true others = refl
    go false others = ap (λ (o : Option X). cond (p y) (Some y) o) others ∙ swapped x y (find p ys) (λ h. (neither (p y) (list_any p ys) (one h)).0)

  find-sorted : (xs : List X) → Once p xs → find p (sorted_by before xs) ≡ find p xs
  unfolding sorted_by Once
  find-sorted [] once = refl
  find-sorted (x ∷ xs) once =
      find-insert x (sorted_by before xs) (λ h. any-sorted xs ∙ once.0 h) ∙ ap (λ (o : Option X). cond (p x) (Some x) o) (find-sorted xs once.1)

  -- among those that pass another test too
  any-filter : (q : X → Bool) (xs : List X) → list_any p (filter q xs) ≡ list_any (λ x. q x && p x) xs
  any-filter q [] = refl
  any-filter q (x ∷ xs) = go (q x) (any-filter q xs) where
    go : (b : Bool) → list_any p (filter q xs) ≡ list_any (λ x. q x && p x) xs → list_any p (cond b (x ∷ filter q xs) (filter q xs)) ≡ ((b && p x) || list_any (λ x. q x && p x) xs)
    go true others = ap (λ b. p x || b) others
    go false others = others

  none-filter : (q : X → Bool) (xs : List X) → list_any p xs ≡ false → list_any p (filter q xs) ≡ false
  none-filter q [] none = refl
  none-filter q (x ∷ xs) none = go (q x) (none-filter q xs (neither (p x) (list_any p xs) none).1) where
    go : (b : Bool) → list_any p (filter q xs) ≡ false → list_any p (cond b (x ∷ filter q xs) (filter q xs)) ≡ false
    go true others = rw ((neither (p x) (list_any p xs) none).0) others
    go false others = others

  once-filter : (q : X → Bool) (xs : List X) → Once p xs → Once p (filter q xs)
  unfolding Once
  once-filter q [] once = tt
  once-filter q (x ∷ xs) once = go (q x) (once-filter q xs once.1) where
    go : (b : Bool) → Once p (filter q xs) → Once p (cond b (x ∷ filter q xs) (filter q xs))
    go true others = (λ h. none-filter q xs (once.0 h), others)
    go false others = others

  find-none : (xs : List X) → list_any p xs ≡ false → find p xs ≡ None
  find-none [] none = refl
  find-none (x ∷ xs) none = let parts = neither (p x) (list_any p xs) none in rw (parts.0) (find-none xs parts.1)

  find-filter : (q : X → Bool) (xs : List X) → Once p xs → find p (filter q xs) ≡ option_and_then (λ x. cond (q x) (Some x) None) (find p xs)
  unfolding Once
  find-filter q [] once = refl
  find-filter q (x ∷ xs) once = go (q x) refl (p x) refl (find-filter q xs once.1) where
    go : (a : Bool) → q x ≡ a → (b : Bool) → p x ≡ b → find p (filter q xs) ≡ option_and_then (λ x. cond (q x) (Some x) None) (find p xs)
        → find p (cond a (x ∷ filter q xs) (filter q xs)) ≡ option_and_then (λ x. cond (q x) (Some x) None) (cond b (Some x) (find p xs))
    go true h true i others = rw (i, h) refl
    go true h false i others = rw i others
    go false h true i others = rw h (find-none (filter q xs) (none-filter q xs (once.0 i)))
    go false h false i others = others

-- what is found among images
find-map : {X Y : Type 0} (p : Y → Bool) (f : X → Y) (xs : List X) → find p (map f xs) ≡ option_map f (find (λ x. p (f x)) xs)
find-map p f [] = refl
find-map {X} {Y} p f (x ∷ xs) = go (p (f x)) (find-map p f xs) where
  go : (b : Bool) → find p (map f xs) ≡ option_map f (find (λ x. p (f x)) xs) → cond b (Some (f x)) (find p (map f xs)) ≡ option_map f (cond b (Some x) (find (λ x. p (f x)) xs))
  go true others = refl
  go false others = others

any-map : {X Y : Type 0} (p : Y → Bool) (f : X → Y) (xs : List X) → list_any p (map f xs) ≡ list_any (λ x. p (f x)) xs
any-map p f [] = refl
any-map p f (x ∷ xs) = ap (λ b. p (f x) || b) (any-map p f xs)

-- no item passes where no place is found
none-passes : {X : Type 0} (p : X → Bool) (xs : List X) → position p xs ≡ None → list_any p xs ≡ false
none-passes p xs none = elim (cases_lt (position_or_len p xs) (length xs)) [
  | inl within ↦ absurd (let is : ltb (position_or_len p xs) (length xs) ≡ true = grind (arith, nat_tests) in
      let some : ◌≡◌ {A = Option ℕ} (Some (position_or_len p xs)) None = rw is at none in cc)
  | inr past ↦ list_any_none p xs (λ k d below. fails_before_first p xs k d (omega (arith, past, below)))
]

-- ---- parameters of a sound database have names of their own

pcf-sound : (db : Database) → IsSound db → table_flaws kind.Pcf (pcf_rules db) db.pcf ≡ []
unfolding flaws
pcf-sound db sound = (append-none (flaws_of db kind.Pcf) (flat_map (flaws_of db) (drop 1 kinds)) sound).0

not-twice : (earlier : List PcfRow) (r : PcfRow) → twice row.Pcf earlier r ≡ None → list_any (λ e. bytes_eq r.name e.name) earlier ≡ false
unfolding same_key
not-twice earlier r none = none-passes (λ e. bytes_eq r.name e.name) earlier (no-place (position (λ e. bytes_eq r.name e.name) earlier) none) where
  no-place : (o : Option ℕ) → option_map {U = Flaw} (λ i. record { code = Twice; column = 0; first = i + 1 }) o ≡ None → o ≡ None
  no-place None h = refl
  no-place (Some i) h = absurd (cc h)

module _ (name : List ℕ) where
  abbrev of_name : PcfRow → Bool
  of_name row = bytes_eq row.name name

  turned : (x y : List ℕ) → bytes_eq y x ≡ true → bytes_eq x y ≡ true
  turned x y same = (bytes_eq-Decides x y).1 (sym ((bytes_eq-Decides y x).0 same))

  other-name : (r : PcfRow) (es : List PcfRow) → list_any (λ e. bytes_eq r.name e.name) es ≡ false → of_name r ≡ true → list_any of_name es ≡ false
  other-name r [] none named = refl
  other-name r (e ∷ es) none named =
      let parts = neither (bytes_eq r.name e.name) (list_any (λ e. bytes_eq r.name e.name) es) none in
      let rest = other-name r es parts.1 named in
      let is : r.name ≡ name = (bytes_eq-Decides r.name name).0 named in
      elim (cases_Bool (of_name e)) [
        | inl same ↦ absurd (false≢true (sym parts.0 ∙ turned r.name e.name (subst (λ (n : List ℕ). bytes_eq e.name n ≡ true) (sym is) same)))
        | inr apart ↦ rw apart rest
      ]

  any-more : (p : PcfRow → Bool) (earlier : List PcfRow) (r : PcfRow) → (list_any p earlier || p r) ≡ true → list_any p (earlier ++ r ∷ []) ≡ true
  any-more p earlier r some = list_any-append p earlier (r ∷ []) ∙ go (list_any p earlier) (p r) some where
    go : (a b : Bool) → (a || b) ≡ true → (a || (b || false)) ≡ true
    go true b h = refl
    go false true h = refl
    go false false h = h

  or-left : (a b : Bool) → a ≡ true → (a || b) ≡ true
  or-left a b h = rw h refl

  or-right : (a b : Bool) → b ≡ true → (a || b) ≡ true
  or-right true b h = refl
  or-right false b h = h

  -- of rows without flaws one at most has the name, and none where an earlier one has it
  once-from : (db : Database) (earlier rows : List PcfRow) → EachRow (NoFlaw (pcf_rules db)) earlier rows → Once of_name rows × (list_any of_name earlier ≡ true → list_any of_name rows ≡ false)
  unfolding EachRow NoFlaw Once
  once-from db earlier [] each = (tt, λ some. refl)
  once-from db earlier (r ∷ rs) each =
      let more = once-from db (earlier ++ r ∷ []) rs each.1 in
      let none = not-twice earlier r each.0.0 in (
        (λ named. more.1 (any-more of_name earlier r (or-right (list_any of_name earlier) (of_name r) named)), more.0),
        λ some. let rest = more.1 (any-more of_name earlier r (or-left (list_any of_name earlier) (of_name r) some)) in elim (cases_Bool (of_name r)) [
          | inl named ↦ absurd (false≢true (sym (other-name r earlier none named) ∙ some))
          | inr other ↦ rw other rest
        ],
      )

  once-named : (db : Database) → IsSound db → Once of_name db.pcf
  once-named db sound = (once-from db [] db.pcf (rows-sound kind.Pcf (pcf_rules db) db.pcf (pcf-sound db sound))).0

  planned-same : (db : Database) (o : Option PcfRow) → option_map (slice_for db) (option_and_then (λ row. cond (has_plan row) (Some row) None) o) ≡ option_and_then (planned db) o
  planned-same db None = refl
  planned-same db (Some row) = go (has_plan row) where
    go : (b : Bool) → option_map (slice_for db) (cond b (Some row) None) ≡ cond b (Some (slice_for db row)) None
    go true = refl
    go false = refl

  found-slice : (db : Database) → IsSound db → find (λ slice. bytes_eq slice.pcf.name name) (param_slices db) ≡ option_and_then (planned db) (parameter db.pcf name)
  unfolding param_slices
  found-slice db sound =
      let once = once-named db sound in
      let rows : List PcfRow = filter has_plan db.pcf in
      find-map (λ (slice : ParamSlice). bytes_eq slice.pcf.name name) (slice_for db) (sorted_by (λ x y. may_precede x.name y.name) rows)
      ∙ (ap (option_map (slice_for db)) (find-sorted of_name (λ x y. may_precede x.name y.name) rows (once-filter of_name (λ x y. may_precede x.name y.name) has_plan db.pcf once)
      ∙ find-filter of_name (λ x y. may_precede x.name y.name) has_plan db.pcf once)
      ∙ planned-same db (parameter db.pcf name))

-- the slices of a sound database are those of its parameters
pub params-of : (db : Database) → IsSound db → IsParamsOf db (param_slices db)
params-of db sound name = found-slice name db sound

-- ---- slots

any-named : (db : Database) (name : List ℕ) → list_any (is_name_of name) (plan_names (param_slices db)) ≡ list_any (is_planned name) db.pcf
unfolding param_slices
any-named db name =
    let before : PcfRow → PcfRow → Bool = λ x y. may_precede x.name y.name in
    let rows : List PcfRow = filter has_plan db.pcf in
    any-map (is_name_of name) (λ (slice : ParamSlice). slice.pcf.name) (map (slice_for db) (sorted_by before rows))
    ∙ (any-map (λ (slice : ParamSlice). is_name_of name slice.pcf.name) (slice_for db) (sorted_by before rows)
    ∙ (any-sorted (of_name name) before rows ∙ any-filter (of_name name) before has_plan db.pcf))

slot-in : (names : List (List ℕ)) (name : List ℕ) → list_any (is_name_of name) names ≡ true → IsSome (position (is_name_of name) names)
slot-in names name there = go (position (is_name_of name) names) refl where
  go : (o : Option ℕ) → position (is_name_of name) names ≡ o → IsSome o
  go None is = absurd (false≢true (sym (none-passes (is_name_of name) names is) ∙ there))
  go (Some i) is = refl

-- a board for all plans has a slot for each parameter that has one
pub slot-of : (db : Database) (board : Slots) (name : List ℕ) → board.names ≡ plan_names (param_slices db) → list_any (is_planned name) db.pcf ≡ true → HasSlot board name
slot-of db board name same there =
    slot-in board.names name (ap (list_any (is_name_of name)) same ∙ any-named db name ∙ there)
