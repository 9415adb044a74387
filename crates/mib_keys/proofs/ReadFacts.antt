-- The flaws of a database are those of what soundness reads of it.
use Rattle.std.proofs.Common.{◌≡◌, ◌∙◌, ℕ, suc, ◌+◌, ◌-◌, ℤ, pos, Bool, true, false, cond, not, ◌&&◌, ◌||◌, nat_eq, nat_lt, List, [], ◌∷◌, ◌++◌, length, map, take, filter, filter_map, Option, Some, None, option_map, refl, sym, ap}
use Rattle.std.proofs.lemmas.List.{take-map}
use Rattle.std.specs.List.{cons_option, enumerate_from, find, flat_map, list_any, position}
use Rattle.std.specs.Str.{bytes_eq}
use Rattle.mib_keys.specs.Kept.{AreSameIn, covers}
use Rattle.mib_keys.specs.Read.{cap_read, mcf_read, ocf_read, ocp_read, pcf_read, read_of}
use Rattle.mib_keys.proofs.KeptFacts.{flaws-same}
use Rattle.mib_model.specs.Curves.{is_real_format}
use Rattle.mib_model.specs.CurveFlaws.{cap_rules, has_curve_of, is_bad_point, is_bad_x, is_same_x, points_in}
use Rattle.mib_model.specs.declared.database.Database.{Database}
use Rattle.mib_model.specs.declared.fault.MibCode.TheVariants.{BadType, Group, Points}
use Rattle.mib_model.specs.declared.kind.Kind.{Kind}
use Rattle.mib_model.specs.declared.kind.Kind.TheVariants as kind
use Rattle.mib_model.specs.declared.rows.CafRow.{CafRow}
use Rattle.mib_model.specs.declared.rows.CapRow.{CapRow}
use Rattle.mib_model.specs.declared.rows.McfRow.{McfRow}
use Rattle.mib_model.specs.declared.rows.OcfRow.{OcfRow}
use Rattle.mib_model.specs.declared.rows.PcfRow.{PcfRow}
use Rattle.mib_model.specs.declared.rows.Row.TheVariants as row
use Rattle.mib_model.specs.Flaws.{Rule, fault_of, flaw_if, missing, row_flaws, table_flaws, twice, twice_by}
use Rattle.mib_model.specs.GroupFlaws.{counts, does_too_much, is_unmeasured, needs_number, passes_end, place_of, repeats_nothing}
use Rattle.mib_model.specs.Parameters.{is_measured, parameter}
use Rattle.mib_model.specs.References.{has_check, has_curve, has_logarithm, has_packet, has_parameter, has_points, has_polynomial, has_texts, if_given}
use Rattle.mib_model.specs.RowFlaws.{is_measured_deduced, ocf_rules, ocp_rules, pcf_rules}
use Rattle.mib_model.specs.Soundness.{flaws_of}
use Rattle.mib_model.specs.Structures.{structure}
use Rattle.mib_model.specs.WholeNumbers.{whole_number}
use Rattle.mib_tables.proofs.TableFacts.{position-map}
use Rattle.mib_tables.specs.declared.table_set.TableSet.{TableSet}

-- ---- what is found among what something makes of rows

any-map : {A B : Type 0} (f : A → B) (p : B → Bool) (xs : List A) → list_any p (map f xs) ≡ list_any (λ x. p (f x)) xs
any-map f p [] = refl
any-map f p (x ∷ xs) = ap (λ b. p (f x) || b) (any-map f p xs)

find-map : {A B : Type 0} (f : A → B) (p : B → Bool) (xs : List A) → find p (map f xs) ≡ option_map f (find (λ x. p (f x)) xs)
find-map f p [] = refl
find-map f p (x ∷ xs) = go (p (f x)) (find-map f p xs) where
  go : (b : Bool) → find p (map f xs) ≡ option_map f (find (λ x. p (f x)) xs) → cond b (Some (f x)) (find p (map f xs)) ≡ option_map f (cond b (Some x) (find (λ x. p (f x)) xs))
  go true others = refl
  go false others = others

count-map : {A B : Type 0} (f : A → B) (p : B → Bool) (xs : List A) → length (filter p (map f xs)) ≡ length (filter (λ x. p (f x)) xs)
count-map f p [] = refl
count-map f p (x ∷ xs) = go (p (f x)) (count-map f p xs) where
  go : (b : Bool) → length (filter p (map f xs)) ≡ length (filter (λ x. p (f x)) xs) → length (cond b (f x ∷ filter p (map f xs)) (filter p (map f xs))) ≡ length (cond b (x ∷ filter (λ x. p (f x)) xs) (filter (λ x. p (f x)) xs))
  go true others = ap suc others
  go false others = others

-- ---- tables whose rows are read in part

-- rules that say of rows what other rules say of what is read of the rows
abbrev Agree : {R : Type 0} → (R → R) → List (Rule R) → List (Rule R) → Type 0
Agree f [] [] = Unit {0}
Agree f [] (b ∷ others) = ⊥
Agree f (a ∷ ones) [] = ⊥
Agree {R} f (a ∷ ones) (b ∷ others) = ((earlier : List R) (r : R) → a earlier r ≡ b (map f earlier) (f r)) × Agree f ones others

row-read : {R : Type 0} (f : R → R) (t : Kind) (ones others : List (Rule R)) → Agree f ones others → (n : ℕ) (earlier : List R) (r : R)
    → filter_map (λ (rule : Rule R). option_map (fault_of t n) (rule earlier r)) ones ≡ filter_map (λ (rule : Rule R). option_map (fault_of t n) (rule (map f earlier) (f r))) others
row-read f t [] [] agree n earlier r = refl
row-read f t [] (b ∷ others) agree n earlier r = absurd agree
row-read f t (a ∷ ones) [] agree n earlier r = absurd agree
row-read f t (a ∷ ones) (b ∷ others) agree n earlier r =
    let rest = row-read f t ones others agree.1 n earlier r in
    λ i. cons_option (option_map (fault_of t n) (agree.0 earlier r i)) (rest i)

numbered-read : {R X : Type 0} (f : R → R) (g h : ℕ × R → List X) → ((n : ℕ) (r : R) → g (n, r) ≡ h (n, f r)) → (n : ℕ) (rows : List R)
    → flat_map g (enumerate_from n rows) ≡ flat_map h (enumerate_from n (map f rows))
numbered-read f g h same n [] = refl
numbered-read f g h same n (r ∷ rows) =
    let first = same n r in
    let rest = numbered-read f g h same (n + 1) rows in
    λ i. first i ++ rest i

table-read : {R : Type 0} (f : R → R) (t : Kind) (ones others : List (Rule R)) → Agree f ones others → (rows : List R) → table_flaws t ones rows ≡ table_flaws t others (map f rows)
unfolding table_flaws
table-read {R} f t ones others agree rows =
    numbered-read f (row_flaws t ones rows) (row_flaws t others (map f rows)) (λ n r.
    row-read f t ones others agree n (take (n - 1) rows) r
    ∙ ap (λ (earlier : List R). filter_map (λ (rule : Rule R). option_map (fault_of t n) (rule earlier (f r))) others) (sym (take-map f (n - 1) rows))) 1 rows

-- no row before has the row's key, where the keys are read
twice-read : {R : Type 0} (f : R → R) (alike : R → R → Bool) → ((x y : R) → alike (f x) (f y) ≡ alike x y) → (earlier : List R) (r : R) → twice_by alike earlier r ≡ twice_by alike (map f earlier) (f r)
twice-read {R} f alike same earlier r =
    let there : position (alike (f r)) (map f earlier) ≡ position (alike r) earlier =
    position-map f (alike (f r)) earlier ∙ (λ i. position (λ (y : R). same r y i) earlier) in
    sym (ap (option_map _) there)

-- ---- references

module _ (db : Database) where
  parameter-read : (name : List ℕ) → parameter (map pcf_read db.pcf) name ≡ option_map pcf_read (parameter db.pcf name)
  parameter-read name = find-map pcf_read (λ (r : PcfRow). bytes_eq r.name name) db.pcf

  has-parameter : (name : List ℕ) → has_parameter db name ≡ has_parameter (read_of db) name
  has-parameter name = sym (any-map pcf_read (λ (r : PcfRow). bytes_eq r.name name) db.pcf)

  has-check : (name : List ℕ) → has_check db name ≡ has_check (read_of db) name
  has-check name = sym (any-map ocf_read (λ (r : OcfRow). bytes_eq r.name name) db.ocf)

  has-polynomial : (name : List ℕ) → has_polynomial db name ≡ has_polynomial (read_of db) name
  has-polynomial name = sym (any-map mcf_read (λ (r : McfRow). bytes_eq r.ident name) db.mcf)

  has-curve : (categ : ℕ) (name : List ℕ) → has_curve db categ name ≡ has_curve (read_of db) categ name
  has-curve categ name = λ i. cond (nat_eq categ 83) (has_texts db name) (cond (nat_eq categ 84) true (has_points db name || has-polynomial name i || has_logarithm db name))

  given-parameter : (name : Option (List ℕ)) → if_given name (has_parameter db) ≡ if_given name (has_parameter (read_of db))
  given-parameter None = refl
  given-parameter (Some name) = has-parameter name

  given-curve : (categ : ℕ) (name : Option (List ℕ)) → if_given name (has_curve db categ) ≡ if_given name (has_curve (read_of db) categ)
  given-curve categ None = refl
  given-curve categ (Some name) = has-curve categ name

  deduced-read : (o : Option PcfRow) → is_measured_deduced (option_map pcf_read o) ≡ is_measured_deduced o
  deduced-read None = refl
  deduced-read (Some r) = refl

  deduced-same : (name : List ℕ) → is_measured_deduced (parameter db.pcf name) ≡ is_measured_deduced (parameter (map pcf_read db.pcf) name)
  deduced-same name = sym (ap is_measured_deduced (parameter-read name) ∙ deduced-read (parameter db.pcf name))

  unmeasured-read : (o : Option PcfRow) → is_unmeasured (option_map pcf_read o) ≡ is_unmeasured o
  unmeasured-read None = refl
  unmeasured-read (Some r) = refl

  unmeasured-same : (name : List ℕ) → is_unmeasured (parameter db.pcf name) ≡ is_unmeasured (parameter (map pcf_read db.pcf) name)
  unmeasured-same name = sym (ap is_unmeasured (parameter-read name) ∙ unmeasured-read (parameter db.pcf name))

  counts-read : (o : Option PcfRow) → counts (option_map pcf_read o) ≡ counts o
  counts-read None = refl
  counts-read (Some r) = refl

  counts-same : (name : List ℕ) → counts (parameter db.pcf name) ≡ counts (parameter (map pcf_read db.pcf) name)
  counts-same name = sym (ap counts (parameter-read name) ∙ counts-read (parameter db.pcf name))

  curve-read : (o : Option PcfRow) (name : List ℕ) → has_curve_of db o name ≡ has_curve_of (read_of db) (option_map pcf_read o) name
  curve-read None name = refl
  curve-read (Some r) name = has-curve r.categ name

  curve-same : (of name : List ℕ) → has_curve_of db (parameter db.pcf of) name ≡ has_curve_of (read_of db) (parameter (map pcf_read db.pcf) of) name
  curve-same of name = curve-read (parameter db.pcf of) name ∙ ap (λ (o : Option PcfRow). has_curve_of (read_of db) o name) (sym (parameter-read of))

  points-same : (name : List ℕ) → length (points_in db name) ≡ length (points_in (read_of db) name)
  points-same name = sym (count-map cap_read (λ (r : CapRow). bytes_eq r.numbr name) db.cap)

bad-x : (radix : ℕ) (earlier : List CapRow) (r : CapRow) (x : Option ℤ) → is_bad_x radix earlier r x ≡ is_bad_x radix (map cap_read earlier) (cap_read r) x
bad-x radix earlier r None = refl
bad-x radix earlier r (Some x) = sym (any-map cap_read (is_same_x radix x (cap_read r)) earlier)

bad-point : (caf : Option CafRow) (earlier : List CapRow) (r : CapRow) → is_bad_point caf earlier r ≡ is_bad_point caf (map cap_read earlier) (cap_read r)
bad-point None earlier r = refl
bad-point (Some caf) earlier r = ap (λ b. not (is_real_format caf.rawfmt) && b) (bad-x caf.radix earlier r (whole_number caf.radix r.xvals))

-- ---- the flaws of each table

-- the flaws of a table are those of what is read
pub flaws-read : (db : Database) (k : Kind) → flaws_of db k ≡ flaws_of (read_of db) k
unfolding structure
flaws-read db kind.Pcf =
    table-read pcf_read kind.Pcf (pcf_rules db) (pcf_rules (read_of db)) (
      twice-read pcf_read _ (λ x y. refl),
      (
        (λ earlier r i. missing ((8, not (is_measured r) || given-parameter db r.valid i) ∷ (12, not (is_measured r) || given-curve db r.categ r.curtx i) ∷ [])),
        ((λ earlier r. refl), ((λ earlier r. refl), ((λ earlier r. refl), tt))),
      ),
    )
    db.pcf
flaws-read db kind.Pid = refl
flaws-read db kind.Pic = refl
flaws-read db kind.Tpcf = refl
flaws-read db kind.Plf =
    λ i. table_flaws kind.Plf (twice row.Plf ∷ (λ earlier r. missing ((1, has-parameter db r.name i) ∷ (2, has_packet db r.spid) ∷ [])) ∷ (λ earlier r. flaw_if BadType (deduced-same db r.name i)) ∷ []) db.plf
flaws-read db kind.Vpd =
    λ i. table_flaws kind.Vpd (
    twice row.Vpd ∷ (λ earlier r. missing ((3, has-parameter db r.name i) ∷ [])) ∷ (λ earlier r. flaw_if BadType (unmeasured-same db r.name i)) ∷
    (λ earlier r. flaw_if Group (does_too_much r || repeats_nothing r || passes_end (structure db (pos r.tpsd)) (place_of db earlier r) r.grpsize || (needs_number r && not (counts-same db r.name i)))) ∷ []
    ) db.vpd
flaws-read db kind.Cur =
    λ i. table_flaws kind.Cur (
    twice row.Cur ∷ (λ earlier r. missing ((1, has-parameter db r.pname i) ∷ (3, has-parameter db r.rlchk i) ∷ (5, curve-same db r.pname r.curve i) ∷ [])) ∷ []
    ) db.cur
flaws-read db kind.Caf =
    λ i. table_flaws kind.Caf (twice row.Caf ∷ (λ earlier r. flaw_if Points (not (is_real_format r.rawfmt) && nat_lt (points-same db r.numbr i) 2)) ∷ []) db.caf
flaws-read db kind.Cap =
    table-read cap_read kind.Cap (cap_rules db) (cap_rules (read_of db))
    (twice-read cap_read _ (λ x y. refl), ((λ earlier r. refl), ((λ earlier r. ap (flaw_if Points) (bad-point (find (λ caf. bytes_eq caf.numbr r.numbr) db.caf) earlier r)), tt)))
    db.cap
flaws-read db kind.Txf = refl
flaws-read db kind.Txp = refl
flaws-read db kind.Mcf = table-read mcf_read kind.Mcf (twice row.Mcf ∷ []) (twice row.Mcf ∷ []) (twice-read mcf_read _ (λ x y. refl), tt) db.mcf
flaws-read db kind.Lgf = refl
flaws-read db kind.Ocf =
    table-read ocf_read kind.Ocf (ocf_rules db) (ocf_rules (read_of db))
    (twice-read ocf_read _ (λ x y. refl), ((λ earlier r i. missing ((1, has-parameter db r.name i) ∷ [])), tt))
    db.ocf
flaws-read db kind.Ocp =
    table-read ocp_read kind.Ocp (ocp_rules db) (ocp_rules (read_of db))
    (twice-read ocp_read _ (λ x y. refl), ((λ earlier r i. missing ((1, has-check db r.name i) ∷ (6, given-parameter db r.rlchk i) ∷ [])), tt))
    db.ocp

-- the flaws of a table are the same where what is read of all tables that it depends on is
pub flaws-alike : (set : TableSet) (old new : Database) → AreSameIn set (read_of old) (read_of new) → (k : Kind) → covers set k ≡ true → flaws_of old k ≡ flaws_of new k
flaws-alike set old new same k h = flaws-read old k ∙ flaws-same set (read_of old) (read_of new) same k h ∙ sym (flaws-read new k)
