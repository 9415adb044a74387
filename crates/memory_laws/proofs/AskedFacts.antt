-- Conditions of a parameter's values, by memories whose latest raw numbers are the same where those ask them.
use Rattle.std.proofs.Common.{◌≡◌, ℕ, ℤ, Bool, true, false, cond, ◌||◌, List, [], ◌∷◌, filter, Option, Some, None, option_map, option_and_then, refl, sym, ap, subst, ◌∙◌}
use Rattle.std.proofs.lemmas.Bool.{false≢true}
use Rattle.std.proofs.lemmas.Slice.Eq.{bytes_eq-Decides}
use Rattle.std.specs.List.{AllByRecursion, find, list_any}
use Rattle.std.specs.Option.{option_eq, option_or}
use Rattle.std.specs.Ordering.{int_eq}
use Rattle.std.specs.Str.{bytes_eq}
use Rattle.mib_model.specs.declared.database.Database.{Database}
use Rattle.mib_model.specs.declared.rows.CurRow.{CurRow}
use Rattle.mib_model.specs.declared.rows.OcpRow.{OcpRow}
use Rattle.mib_model.specs.declared.rows.PcfRow.{PcfRow}
use Rattle.mib_model.specs.Checks.{Sample, applies, checks_of, class_by, class_of}
use Rattle.mib_model.specs.Curves.{curve_named, curve_of, selections}
use Rattle.mib_model.specs.Finish.{is_valid}
use Rattle.mib_model.specs.Kept.{Memory, holds, is_met}
use Rattle.mib_model.specs.Parameters.{parameter}
use Rattle.mib_laws.proofs.SliceFacts.{same_octets}
use Rattle.memory_laws.specs.Alike.{asks, is_on, is_valid_on}

or-left : (a b : Bool) → a ≡ true → (a || b) ≡ true
or-left true b h = refl
or-left false b h = absurd (false≢true h)

or-right : (a b : Bool) → b ≡ true → (a || b) ≡ true
or-right true b h = refl
or-right false b h = h

-- what holds of each name that any of rows asks holds of those that each row asks
all-ask : {R : Type 0} (ask : R → List ℕ → Bool) (Holds : List ℕ → Type 0) (rows : List R)
    → ((name : List ℕ) → list_any (λ row. ask row name) rows ≡ true → Holds name) → AllByRecursion (λ row. (name : List ℕ) → ask row name ≡ true → Holds name) rows
all-ask ask Holds [] holds = tt
all-ask ask Holds (row ∷ rows) holds = (
  λ name h. holds name (or-left (ask row name) (list_any (λ r. ask r name) rows) h),
  all-ask ask Holds rows (λ name h. holds name (or-right (ask row name) (list_any (λ r. ask r name) rows) h)),
)

-- two tests that agree on all rows find the same, and keep the same
find-agree : {R : Type 0} (f g : R → Bool) (rows : List R) → AllByRecursion (λ row. f row ≡ g row) rows → find f rows ≡ find g rows
find-agree f g [] all = refl
find-agree f g (row ∷ rows) all = λ i. cond (all.0 i) (Some row) (find-agree f g rows all.1 i)

filter-agree : {R : Type 0} (f g : R → Bool) (rows : List R) → AllByRecursion (λ row. f row ≡ g row) rows → filter f rows ≡ filter g rows
filter-agree f g [] all = refl
filter-agree f g (row ∷ rows) all = λ i. cond (all.0 i) (row ∷ filter-agree f g rows all.1 i) (filter-agree f g rows all.1 i)

all-weaker : {R : Type 0} (P Q : R → Type 0) → ((row : R) → P row → Q row) → (rows : List R) → AllByRecursion P rows → AllByRecursion Q rows
all-weaker P Q weaker [] all = tt
all-weaker P Q weaker (x ∷ xs) all = (weaker x all.0, all-weaker P Q weaker xs all.1)

-- what is found passes
found-step : {R : Type 0} (p : R → Bool) (y x : R) (b : Bool) (rest : Option R) → p y ≡ b → cond b (Some y) rest ≡ Some x → (rest ≡ Some x → p x ≡ true) → p x ≡ true
found-step {R} p y x true rest here is more =
    let P : R → Type 0 = λ z. p z ≡ true in
    let same : y ≡ x = cc is in subst P same here
found-step p y x false rest here is more = more is

found-passes : {R : Type 0} (p : R → Bool) (xs : List R) (x : R) → find p xs ≡ Some x → p x ≡ true
found-passes p [] x is = absurd (cc is)
found-passes p (y ∷ xs) x is = found-step p y x (p y) (find p xs) refl is (found-passes p xs x)

-- one condition
is_met-same : (m n : Memory) (condition : Option (List ℕ)) (number : ℤ) → ((name : List ℕ) → is_on name condition ≡ true → (m name).latest ≡ (n name).latest)
    → is_met m condition number ≡ is_met n condition number
is_met-same m n None number same = refl
is_met-same m n (Some name) number same = ap (λ (latest : Option ℤ). option_eq int_eq latest (Some number)) (same name ((bytes_eq-Decides name name).1 refl))

module _ (db : Database) (m n : Memory) (name : List ℕ) (same : (other : List ℕ) → asks db name other ≡ true → (m other).latest ≡ (n other).latest) where
  abbrev Same : List ℕ → Type 0
  Same other = (m other).latest ≡ (n other).latest

  abbrev valid_on : List ℕ → Bool
  valid_on other = is_valid_on other (parameter db.pcf name)

  abbrev selection_on : List ℕ → Bool
  selection_on other = list_any (λ row. bytes_eq row.rlchk other) (selections db name)

  abbrev limit_on : List ℕ → Bool
  limit_on other = list_any (λ row. is_on other row.rlchk) (checks_of db name)

  pub is_valid-same : (row : PcfRow) → parameter db.pcf name ≡ Some row → is_valid m row ≡ is_valid n row
  is_valid-same row is =
      is_met-same m n row.valid row.valpar (λ other h. same other
      (or-left (valid_on other || selection_on other) (limit_on other) (or-left (valid_on other) (selection_on other) (ap (is_valid_on other) is ∙ h))))

  chosen-same : find (λ cur. holds m cur.rlchk cur.valpar) (selections db name) ≡ find (λ cur. holds n cur.rlchk cur.valpar) (selections db name)
  chosen-same =
      find-agree (λ (cur : CurRow). holds m cur.rlchk cur.valpar) (λ cur. holds n cur.rlchk cur.valpar) (selections db name)
      (all-weaker (λ (cur : CurRow). (other : List ℕ) → bytes_eq cur.rlchk other ≡ true → Same other) (λ cur. holds m cur.rlchk cur.valpar ≡ holds n cur.rlchk cur.valpar)
      (λ cur each. is_met-same m n (Some cur.rlchk) cur.valpar each) (selections db name)
      (all-ask (λ (cur : CurRow) other. bytes_eq cur.rlchk other) Same (selections db name) (λ other h. same other
      (or-left (valid_on other || selection_on other) (limit_on other) (or-right (valid_on other) (selection_on other) h)))))

  pub curve_of-same : (row : PcfRow) → parameter db.pcf name ≡ Some row → curve_of db row m ≡ curve_of db row n
  unfolding curve_of
  curve_of-same row is =
      let own : row.name ≡ name = same_octets row.name name (found-passes (λ (r : PcfRow). bytes_eq r.name name) db.pcf row is) in
      let chosen = subst (λ (x : List ℕ). find (λ cur. holds m cur.rlchk cur.valpar) (selections db x) ≡ find (λ cur. holds n cur.rlchk cur.valpar) (selections db x)) (sym own) chosen-same in
      ap (λ (o : Option CurRow). option_and_then (curve_named db row.categ) (option_or row.curtx (option_map (λ cur. cur.curve) o))) chosen

  applies-same : filter (applies m) (checks_of db name) ≡ filter (applies n) (checks_of db name)
  applies-same =
      filter-agree (applies m) (applies n) (checks_of db name)
      (all-weaker (λ (row : OcpRow). (other : List ℕ) → is_on other row.rlchk ≡ true → Same other) (λ row. applies m row ≡ applies n row)
      (λ row each. is_met-same m n row.rlchk row.valpar each) (checks_of db name)
      (all-ask (λ (row : OcpRow) other. is_on other row.rlchk) Same (checks_of db name) (λ other h. same other
      (or-right (valid_on other || selection_on other) (limit_on other) h))))

  pub class_of-same : (sample : Sample) (p q : Option ℤ) → p ≡ q → class_of (checks_of db name) sample p m ≡ class_of (checks_of db name) sample q n
  unfolding class_of
  class_of-same sample p q previous = λ i. class_by (applies-same i) sample (previous i)
