-- In a sound database each parameter has a name of its own, so that those with plans ascend by name.
use Rattle.std.proofs.Common.{◌≡◌, ◌∙◌, ℕ, zero, suc, ◌+◌, ◌≤◌, Bool, true, false, not, cond, nat_lt, List, [], ◌∷◌, ◌++◌, Some, None, Less, Equal, Greater, Ordering, length, get_or, map, filter, option_map, refl, sym, ap, subst, append_assoc, arith}
use Rattle.std.proofs.lemmas.Bool.{false≢true, ltb-false}
use Rattle.std.proofs.lemmas.Cmp.{nat_list_eq_equiv}
use Rattle.std.proofs.lemmas.List.{append-nil}
use Rattle.std.proofs.lemmas.List.Elements.{filter-append}
use Rattle.std.proofs.lemmas.List.Sorted.{ranks_by}
use Rattle.std.specs.Cmp.{tied_itself}
use Rattle.std.specs.Cmp.Lexicographic.{bytes_decides, nat_list_cmp_total, slice_cmp, texts_ties}
use Rattle.std.specs.List.{flat_map, position, prefix_len}
use Rattle.std.specs.Prelude.{drop}
use Rattle.std.specs.Ordering.{is_eq, is_lt, nat_cmp, ordering_reverse}
use Rattle.std.specs.Str.{bytes_eq}
use Rattle.edition_plans.specs.Params.{param_slices}
use Rattle.mib_model.specs.declared.database.Database.{Database}
use Rattle.mib_model.specs.declared.kind.Kind.TheVariants as kind
use Rattle.mib_model.specs.declared.rows.PcfRow.{PcfRow}
use Rattle.mib_model.specs.Flaws.{Flaw, table_flaws}
use Rattle.mib_model.specs.Keys.{same_key}
use Rattle.mib_model.specs.Kinds.{kinds}
use Rattle.mib_model.specs.Orders.{sorted_by}
use Rattle.mib_model.specs.Plans.{has_plan, may_precede}
use Rattle.mib_model.specs.RowFlaws.{pcf_rules}
use Rattle.mib_model.specs.Soundness.{IsSound, flaws, flaws_of}
use Rattle.mib_laws.proofs.SoundStructures.{append-none, rows-sound, EachRow, NoFlaw}
use Rattle.param_plan.specs.Names.{Ascend}
use Rattle.param_plan.specs.Slices.{slice_for}
use Rattle.param_set.proofs.OrderFacts.{Up, filter-swap, less, may_stand, not-less, sorted-kept, sorted-up}

abbrev pub named : List ℕ → PcfRow → Bool
named name row = bytes_eq row.name name

-- no two rows have one name
abbrev pub Once : List PcfRow → Type 0
Once rows = (name : List ℕ) → length (filter (named name) rows) ≤ 1

-- ---- a sound database

pcf-sound : (db : Database) → IsSound db → table_flaws kind.Pcf (pcf_rules db) db.pcf ≡ []
unfolding flaws
pcf-sound db sound = (append-none (flaws_of db kind.Pcf) (flat_map (flaws_of db) (drop 1 kinds)) sound).0

passed : (b : Bool) (n m : ℕ) → suc m ≤ cond (not b) (1 + n) 0 → (b ≡ false) × (m ≤ n)
passed true n m h = absurd (omega (arith, h))
passed false n m h = (refl, omega (arith, h))

none-pass : {X : Type 0} (p : X → Bool) (xs : List X) → length xs ≤ prefix_len (λ x. not (p x)) xs → filter p xs ≡ []
none-pass p [] h = refl
none-pass p (x ∷ xs) h = let here = passed (p x) (prefix_len (λ y. not (p y)) xs) (length xs) h in rw here.0 (none-pass p xs here.1)

nowhere : {X : Type 0} (f : ℕ → Flaw) (p : X → Bool) (xs : List X) → option_map f (position p xs) ≡ None → filter p xs ≡ []
nowhere f p xs h = none-pass p xs (go (nat_lt n (length xs)) refl h) where
  n : ℕ
  n = prefix_len (λ x. not (p x)) xs

  go : (b : Bool) → nat_lt n (length xs) ≡ b → option_map f (cond b (Some n) None) ≡ None → length xs ≤ n
  go true e h = absurd (cc h)
  go false e h = ltb-false n (length xs) e

-- no earlier row has the name of a row without flaws
none-earlier : (db : Database) (earlier : List PcfRow) (r : PcfRow) → NoFlaw (pcf_rules db) earlier r → filter (named r.name) earlier ≡ []
unfolding NoFlaw same_key
none-earlier db earlier r none = (λ i. filter (λ (o : PcfRow). nat_list_eq_equiv.symm o.name r.name i) earlier) ∙ nowhere _ (λ (o : PcfRow). bytes_eq r.name o.name) earlier none.0

once-more : (earlier : List PcfRow) (r : PcfRow) → Once earlier → filter (named r.name) earlier ≡ [] → Once (earlier ++ r ∷ [])
once-more earlier r once none name = go (named name r) refl where
  both : filter (named name) (earlier ++ r ∷ []) ≡ filter (named name) earlier ++ filter (named name) (r ∷ [])
  both = filter-append (named name) earlier (r ∷ [])

  go : (b : Bool) → named name r ≡ b → length (filter (named name) (earlier ++ r ∷ [])) ≤ 1
  go true own =
      let same : r.name ≡ name = (bytes_decides r.name name).0 own in
      let empty : filter (named name) earlier ≡ [] = subst (λ (n : List ℕ). filter (named n) earlier ≡ []) same none in
      let one : filter (named name) (r ∷ []) ≡ r ∷ [] = rw own refl in
      let all : filter (named name) (earlier ++ r ∷ []) ≡ r ∷ [] = both ∙ (ap (λ xs. xs ++ filter (named name) (r ∷ [])) empty ∙ one) in
      omega (arith, ap length all)
  go false other =
      let one : filter (named name) (r ∷ []) ≡ [] = rw other refl in
      let all : filter (named name) (earlier ++ r ∷ []) ≡ filter (named name) earlier = both ∙ (ap (λ xs. filter (named name) earlier ++ xs) one ∙ append-nil (filter (named name) earlier)) in
      let few = once name in
      omega (arith, ap length all, few)

once-from : (db : Database) (earlier rows : List PcfRow) → EachRow (NoFlaw (pcf_rules db)) earlier rows → Once earlier → Once (earlier ++ rows)
unfolding EachRow
once-from db earlier [] each once = subst Once (sym (append-nil earlier)) once
once-from db earlier (r ∷ rs) each once =
    subst Once (append_assoc earlier (r ∷ []) rs)
    (once-from db (earlier ++ r ∷ []) rs each.1 (once-more earlier r once (none-earlier db earlier r each.0)))

-- each parameter of a sound database has a name of its own
pub sound-once : (db : Database) → IsSound db → Once db.pcf
sound-once db sound = once-from db [] db.pcf (rows-sound kind.Pcf (pcf_rules db) db.pcf (pcf-sound db sound)) (λ name. omega arith)

-- ---- the parameters that have plans, by name

abbrev pub planned_rows : Database → List PcfRow
planned_rows db = sorted_by (λ x y. may_precede x.name y.name) (filter has_plan db.pcf)

abbrev by_name : PcfRow → List ℕ
by_name row = row.name

-- rows of one name
alike : (name : List ℕ) (x y : PcfRow) → named name x ≡ true → named name y ≡ true → less nat_list_cmp_total by_name x y ≡ false
alike name x y h k =
    let first : x.name ≡ name = (bytes_decides x.name name).0 h in
    let second : y.name ≡ name = (bytes_decides y.name name).0 k in
    (λ i. is_lt (slice_cmp nat_cmp (first i) (second i))) ∙ ap is_lt (tied_itself nat_list_cmp_total name)

-- the planned rows of a name are those of its rows that have plans
pub named-planned : (db : Database) (name : List ℕ) → filter (named name) (planned_rows db) ≡ filter has_plan (filter (named name) db.pcf)
named-planned db name =
    sorted-kept (less nat_list_cmp_total by_name) (may_stand nat_list_cmp_total by_name) (ranks_by nat_list_cmp_total by_name) (not-less nat_list_cmp_total by_name) (named name) (alike name) (filter has_plan db.pcf)
    ∙ filter-swap (named name) has_plan db.pcf

filter-fewer : (p : PcfRow → Bool) (xs : List PcfRow) → length (filter p xs) ≤ length xs
filter-fewer p [] = omega arith
filter-fewer p (x ∷ xs) = go (p x) (filter-fewer p xs) where
  go : (b : Bool) → length (filter p xs) ≤ length xs → length (cond b (x ∷ filter p xs) (filter p xs)) ≤ length (x ∷ xs)
  go true h = omega (arith, h)
  go false h = omega (arith, h)

-- each parameter that has a plan has a name of its own where each parameter has
pub planned-once : (db : Database) → Once db.pcf → Once (planned_rows db)
planned-once db once name =
    let few = once name in
    let fewer = filter-fewer has_plan (filter (named name) db.pcf) in
    omega (arith, few, fewer, ap length (named-planned db name))

pub once-tail : (x : PcfRow) (xs : List PcfRow) → Once (x ∷ xs) → Once xs
once-tail x xs once name = go (named name x) (once name) where
  go : (b : Bool) → length (cond b (x ∷ filter (named name) xs) (filter (named name) xs)) ≤ 1 → length (filter (named name) xs) ≤ 1
  go true h = omega (arith, h)
  go false h = h

own-name : (x : PcfRow) → named x.name x ≡ true
own-name x = nat_list_eq_equiv.refl x.name

two-named : (x y : PcfRow) (ys : List PcfRow) → Once (x ∷ y ∷ ys) → named x.name y ≡ true → ⊥
two-named x y ys once same =
    let all : filter (named x.name) (x ∷ y ∷ ys) ≡ x ∷ y ∷ filter (named x.name) ys = rw (own-name x, same) refl in
    let few = once x.name in
    omega (arith, few, ap length all)

below-next : (x y : PcfRow) (ys : List PcfRow) → Once (x ∷ y ∷ ys) → less nat_list_cmp_total by_name y x ≡ false → slice_cmp nat_cmp x.name y.name ≡ Less
below-next x y ys once up = go (slice_cmp nat_cmp x.name y.name) refl where
  go : (r : Ordering) → slice_cmp nat_cmp x.name y.name ≡ r → slice_cmp nat_cmp x.name y.name ≡ Less
  go Less e = e
  go Equal e =
      let same : named x.name y ≡ true = nat_list_eq_equiv.symm y.name x.name ∙ (texts_ties x.name y.name ∙ ap is_eq e) in
      absurd (two-named x y ys once same)
  go Greater e =
      let back : slice_cmp nat_cmp y.name x.name ≡ Less = nat_list_cmp_total.antisymm y.name x.name ∙ ap ordering_reverse e in
      absurd (false≢true (sym up ∙ ap is_lt back))

ascend-from : (db : Database) (rows : List PcfRow) → Up (less nat_list_cmp_total by_name) (may_stand nat_list_cmp_total by_name) (ranks_by nat_list_cmp_total by_name) (not-less nat_list_cmp_total by_name) rows → Once rows → Ascend (map (slice_for db) rows)
ascend-from db [] up once k d below = absurd (omega (arith, below))
ascend-from db (x ∷ []) up once k d below = absurd (omega (arith, below))
ascend-from db (x ∷ y ∷ ys) up once zero d below = below-next x y ys once up.0.0
ascend-from db (x ∷ y ∷ ys) up once (suc k) d below =
    let rest = ascend-from db (y ∷ ys) up.1 (once-tail x (y ∷ ys) once) k d (omega (arith, below)) in
    let e : suc (k + 1) ≡ suc k + 1 = omega arith in
    let slices = map (slice_for db) (x ∷ y ∷ ys) in
    subst (λ n. slice_cmp nat_cmp (get_or slices (suc k) d).pcf.name (get_or slices n d).pcf.name ≡ Less) e rest

-- the plans of a sound database ascend by name
pub slices-ascend : (db : Database) → IsSound db → Ascend (param_slices db)
unfolding param_slices
slices-ascend db sound =
    ascend-from db (planned_rows db)
    (sorted-up (less nat_list_cmp_total by_name) (may_stand nat_list_cmp_total by_name) (ranks_by nat_list_cmp_total by_name) (not-less nat_list_cmp_total by_name) (filter has_plan db.pcf))
    (planned-once db (sound-once db sound))
