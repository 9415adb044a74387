-- The first flaw of a table is the one that is looked for row by row, and that of all tables is the one of the first.
use Rattle.std.proofs.Common.{◌≡◌, ℕ, zero, suc, subst, ◌+◌, ◌-◌, min, Bool, true, false, cond, ◌&&◌, ◌||◌, List, [], ◌∷◌, ◌++◌, map, take, drop, get_or, length, ◌<◌, filter_map, Option, Some, None, option_map, Result, Ok, Err, IfOk, refl, sym, ap, ◌∙◌, nat_eq, arith}
use Rattle.std.proofs.Math.Path.{fun_ext}
use Rattle.std.proofs.lemmas.List.{drop_more, length-map}
use Rattle.std.specs.Cmp.{nat_eq_equiv}
use Rattle.std.specs.List.{position, flat_map, cons_option, enumerate_from}
use Rattle.std.specs.Option.{option_or}
use Rattle.mib_model.specs.declared.database.Database.{Database}
use Rattle.mib_model.specs.declared.fault.MibCode.TheVariants.{Twice}
use Rattle.mib_model.specs.declared.fault.MibFault.{MibFault}
use Rattle.mib_model.specs.declared.kind.Kind.{Kind}
use Rattle.mib_model.specs.declared.rows.PidRow.{PidRow}
use Rattle.mib_model.specs.declared.rows.Row.{Row}
use Rattle.mib_model.specs.declared.kind.Kind.TheVariants as kind
use Rattle.mib_model.specs.declared.rows.Row.TheVariants as row
use Rattle.mib_model.specs.Drafts.{rows_of}
use Rattle.mib_model.specs.Flaws.{Rule, fault_of, row_flaws, table_flaws, twice, twice_by}
use Rattle.mib_model.specs.GroupFlaws.{vpd_rules}
use Rattle.mib_model.specs.CurveFlaws.{cur_rules, caf_rules, cap_rules, txp_rules}
use Rattle.mib_model.specs.Keys.{key_in, same_key}
use Rattle.mib_model.specs.RowTexts.{kind_in}
use Rattle.mib_model.specs.TypedRows.{as_pid}
use Rattle.mib_model.specs.Kinds.{kinds}
use Rattle.mib_model.specs.Points.{first_of}
use Rattle.mib_model.specs.RowFlaws.{same_packet, pcf_rules, pid_rules, plf_rules, ocf_rules, ocp_rules}
use Rattle.mib_model.specs.Soundness.{flaws, flaws_of, first_flaw}
use Rattle.mib_keys.specs.Alike.{are_of_a_kind, has_its_key, is_like}
use Rattle.mib_keys.specs.Firsts.{least, twice_at, flaw_at, first_in, first_over}
use Rattle.mib_tables.proofs.TableFacts.{position-map}
use Rattle.row_flaws.specs.Firsts.{first_from, flaw_by}
use Rattle.row_flaws.specs.Indexes.{cut}
use Rattle.row_flaws.specs.Rows.{row_flaw}
use Rattle.mib_keys.proofs.KeyFacts.{same-by_eq}
use Rattle.mib_index.proofs.PlaceFacts.{position-cons}
use Rattle.row_flaws.proofs.PointFacts.{position-take}

pub or-assoc : {A : Type 0} (a b c : Option A) → option_or (option_or a b) c ≡ option_or a (option_or b c)
or-assoc None b c = refl
or-assoc (Some x) b c = refl

or-none : {A : Type 0} (a : Option A) → option_or a None ≡ a
or-none None = refl
or-none (Some x) = refl

first-append : {A : Type 0} (xs ys : List A) → first_of (xs ++ ys) ≡ option_or (first_of xs) (first_of ys)
first-append [] ys = refl
first-append (x ∷ xs) ys = refl

first-cons : {A : Type 0} (o : Option A) (xs : List A) → first_of (cons_option o xs) ≡ option_or o (first_of xs)
first-cons None xs = refl
first-cons (Some x) xs = refl

-- the first flaw by rules
from-found : {A : Type 0} (found : Option A) (os : List (Option A)) → first_from found os ≡ option_or found (first_from None os)
from-found found [] = sym (or-none found)
from-found found (o ∷ os) = from-found (option_or found o) os ∙ (or-assoc found o (first_from None os) ∙ ap (option_or found) (sym (from-found o os)))

rules-first : {X A : Type 0} (h : X → Option A) (xs : List X) → first_of (filter_map h xs) ≡ first_from None (map h xs)
rules-first h [] = refl
rules-first h (x ∷ xs) = first-cons (h x) (filter_map h xs) ∙ (ap (option_or (h x)) (rules-first h xs) ∙ sym (from-found (h x) (map h xs)))

split-rules : {R : Type 0} (t : Kind) (n : ℕ) (rule : Rule R) (rules : List (Rule R)) (earlier : List R) (r : R) → first_of (filter_map (λ (one : Rule R). option_map (fault_of t n) (one earlier r)) (rule ∷ rules)) ≡ option_or (option_map (fault_of t n) (rule earlier r)) (flaw_by t n rules earlier r)
split-rules t n rule rules earlier r =
    rules-first (λ one. option_map (fault_of t n) (one earlier r)) (rule ∷ rules) ∙ from-found (option_map (fault_of t n) (rule earlier r)) (map (λ one. option_map (fault_of t n) (one earlier r)) rules)

twice-fault : (t : Kind) (n : ℕ) (o : Option ℕ) → option_map (fault_of t n) (option_map (λ i. record { code = Twice; column = 0; first = i + 1 }) o) ≡ option_map (twice_at t n) o
twice-fault t n None = refl
twice-fault t n (Some i) = refl

-- the first of two kinds of items
pub position-or : {X : Type 0} (p q : X → Bool) (xs : List X) → position (λ x. p x || q x) xs ≡ least (position p xs) (position q xs)
position-or p q [] = refl
position-or p q (x ∷ xs) =
    position-cons (λ y. p y || q y) x xs ∙ (ap (λ o. cond (p x || q x) (Some 0) (option_map (λ i. i + 1) o)) (position-or p q xs) ∙
    (go (p x) (q x) (position p xs) (position q xs) ∙ (ap (λ o. least o (cond (q x) (Some 0) (option_map (λ i. i + 1) (position q xs)))) (sym (position-cons p x xs)) ∙ ap (least (position p (x ∷ xs))) (sym (position-cons q x xs))))) where
      go : (b c : Bool) (o u : Option ℕ) → cond (b || c) (Some 0) (option_map (λ i. i + 1) (least o u)) ≡ least (cond b (Some 0) (option_map (λ i. i + 1) o)) (cond c (Some 0) (option_map (λ i. i + 1) u))
      go true true o u = let e : 0 ≡ min 0 0 = omega arith in ap Some e
      go true false o None = refl
      go true false o (Some j) = let e : 0 ≡ min 0 (j + 1) = omega arith in ap Some e
      go false true None u = refl
      go false true (Some i) u = let e : 0 ≡ min (i + 1) 0 = omega arith in ap Some e
      go false false None u = refl
      go false false (Some i) None = refl
      go false false (Some i) (Some j) = let e : min i j + 1 ≡ min (i + 1) (j + 1) = omega arith in ap Some e

-- the first flaw of the row of this number: an earlier row like it, or what other rules find
abbrev flaw_in : {R : Type 0} → Kind → (R → R → Bool) → List (Rule R) → List R → ℕ → R → Option MibFault
flaw_in table alike rest rows n r =
    option_or (option_map (twice_at table n) (cut (n - 1) (position (alike r) rows))) (flaw_by table n rest (take (n - 1) rows) r)

-- the first flaw of a row, and then of the rows of a table
module _ {R : Type 0} (t : Kind) (alike : R → R → Bool) (rest : List (Rule R)) (all : List R) where
  row-first : (n : ℕ) (r : R) → first_of (row_flaws t (twice_by alike ∷ rest) all (n, r)) ≡ flaw_in t alike rest all n r
  row-first n r =
      split-rules t n (twice_by alike) rest (take (n - 1) all) r ∙ ap (λ o. option_or o (flaw_by t n rest (take (n - 1) all) r))
      (twice-fault t n (position (alike r) (take (n - 1) all)) ∙ ap (option_map (twice_at t n)) (position-take (alike r) (n - 1) all))

  rows-first : (n : ℕ) (rs : List R) → first_of (flat_map (row_flaws t (twice_by alike ∷ rest) all) (enumerate_from n rs)) ≡ first_in (flaw_in t alike rest all) n rs
  rows-first n [] = refl
  rows-first n (r ∷ rs) =
      let more = flat_map (row_flaws t (twice_by alike ∷ rest) all) (enumerate_from (n + 1) rs) in
      first-append (row_flaws t (twice_by alike ∷ rest) all (n, r)) more ∙ (ap (λ o. option_or o (first_of more)) (row-first n r) ∙ ap (option_or (flaw_in t alike rest all n r)) (rows-first (n + 1) rs))

  pub table-first : first_of (table_flaws t (twice_by alike ∷ rest) all) ≡ first_in (flaw_in t alike rest all) 1 all
  unfolding table_flaws
  table-first = rows-first 1 all

-- one row more without a flaw
pub row-passed : {R : Type 0} (flaw : ℕ → R → Option MibFault) (rows : List R) (i : ℕ) (row : R) → i < length rows → row ≡ get_or rows i row → None ≡ flaw (i + 1) row
    → first_in flaw (i + 1) (drop i rows) ≡ first_in flaw (i + 1 + 1) (drop (i + 1) rows)
row-passed flaw rows i row below is none =
    ap (first_in flaw (i + 1)) (drop_more rows i row below)
    ∙ ap (λ o. option_or o (first_in flaw (i + 1 + 1) (drop (i + 1) rows))) (sym (none ∙ ap (flaw (i + 1)) is))

-- the first flaw of rows is that of the row at a place
pub row-found : {R : Type 0} (flaw : ℕ → R → Option MibFault) (rows : List R) (i : ℕ) (row : R) (fault : MibFault) → i < length rows → row ≡ get_or rows i row → Some fault ≡ flaw (i + 1) row
    → first_in flaw (i + 1) (drop i rows) ≡ Some fault
row-found flaw rows i row fault below is found =
    ap (first_in flaw (i + 1)) (drop_more rows i row below)
    ∙ ap (λ o. option_or o (first_in flaw (i + 1 + 1) (drop (i + 1) rows))) (sym (found ∙ ap (flaw (i + 1)) is))

get-map : {R X : Type 0} (f : R → X) (rows : List R) (i : ℕ) (d : R) → get_or (map f rows) i (f d) ≡ f (get_or rows i d)
get-map f [] i d = refl
get-map f (r ∷ rs) zero d = refl
get-map f (r ∷ rs) (suc i) d = get-map f rs i d

-- a row of a table, as a row of any table
pub row-at : {R : Type 0} (as_row : R → Row) (rows : List R) (all : List Row) (i : ℕ) (r : R) → map as_row rows ≡ all → i < length rows → r ≡ get_or rows i r
    → (i < length all) × (as_row r ≡ get_or all i (as_row r))
row-at as_row rows all i r same below is =
    subst (λ (all : List Row). (i < length all) × (as_row r ≡ get_or all i (as_row r))) same
    (let long = length-map rows as_row in omega (arith, long, below), ap as_row is ∙ sym (get-map as_row rows i r))

-- the first flaw of a table by its rules is that of its rows as rows of any table
module _ {R : Type 0} (t : Kind) (as_row : R → Row) (alike : R → R → Bool) (rest : List (Rule R)) (all : List R) (db : Database)
    (like : (x y : R) → alike x y ≡ is_like (as_row x) (as_row y)) (own : (r : R) → kind_in (as_row r) ≡ t) (rows : map as_row all ≡ rows_of db t)
    (others : (n : ℕ) (r : R) → flaw_by t n rest (take (n - 1) all) r ≡ row_flaw db n (as_row r)) where
  like-place : (r : R) → position (alike r) all ≡ position (is_like (as_row r)) (rows_of db t)
  like-place r =
      ap (λ (p : R → Bool). position p all) (fun_ext (λ (o : R). like r o)) ∙ (sym (position-map as_row (is_like (as_row r)) all) ∙ ap (position (is_like (as_row r))) rows)

  each : (n : ℕ) (r : R) → flaw_in t alike rest all n r ≡ flaw_at db n (as_row r)
  each n r =
      subst (λ (k : Kind). flaw_in t alike rest all n r ≡ option_or (option_map (twice_at k n) (cut (n - 1) (position (is_like (as_row r)) (rows_of db k)))) (row_flaw db n (as_row r))) (sym (own r))
      (λ i. option_or (option_map (twice_at t n) (cut (n - 1) (like-place r i))) (others n r i))

  any-rows : (n : ℕ) (rs : List R) → first_in (flaw_in t alike rest all) n rs ≡ first_in (flaw_at db) n (map as_row rs)
  any-rows n [] = refl
  any-rows n (r ∷ rs) = λ i. option_or (each n r i) (any-rows (n + 1) rs i)

  any-table : first_of (table_flaws t (twice_by alike ∷ rest) all) ≡ first_in (flaw_at db) 1 (rows_of db t)
  any-table = table-first t alike rest all ∙ (any-rows 1 all ∙ ap (first_in (flaw_at db) 1) rows)

or-false : (b : Bool) → (b || false) ≡ b
or-false true = refl
or-false false = refl

-- rows that are no packets are told apart by their keys alone
by-key : (r other : Row) → as_pid r ≡ None → same_key (key_in r) (key_in other) ≡ is_like r other
by-key r other none =
    same-by_eq (key_in r) (key_in other) ∙ (sym (or-false (has_its_key r other)) ∙ ap (λ (p : Option PidRow). has_its_key r other || are_of_a_kind p (as_pid other)) (sym none))

-- packets of one number or of one kind
five : (a b c d e : Bool) → (a && (b && (c && (d && e)))) ≡ (a && b && c && d && e)
five true true true d e = refl
five true true false d e = refl
five true false c d e = refl
five false b c d e = refl

by-packet : (x y : PidRow) → is_like (row.Pid x) (row.Pid y) ≡ same_packet x y
by-packet x y =
    rw (nat_eq_equiv.symm y.spid x.spid, nat_eq_equiv.symm y.apid x.apid, nat_eq_equiv.symm y.service x.service, nat_eq_equiv.symm y.subtype x.subtype, nat_eq_equiv.symm y.pi1_val x.pi1_val, nat_eq_equiv.symm y.pi2_val x.pi2_val)
    (ap (λ b. nat_eq x.spid y.spid || b) (five (nat_eq x.apid y.apid) (nat_eq x.service y.service) (nat_eq x.subtype y.subtype) (nat_eq x.pi1_val y.pi1_val) (nat_eq x.pi2_val y.pi2_val)))

keyed-table : {R : Type 0} (t : Kind) (as_row : R → Row) (rest : List (Rule R)) (all : List R) (db : Database) → ((r : R) → as_pid (as_row r) ≡ None) → ((r : R) → kind_in (as_row r) ≡ t)
    → map as_row all ≡ rows_of db t → ((n : ℕ) (r : R) → flaw_by t n rest (take (n - 1) all) r ≡ row_flaw db n (as_row r))
    → first_of (table_flaws t (twice as_row ∷ rest) all) ≡ first_in (flaw_at db) 1 (rows_of db t)
keyed-table {R} t as_row rest all db none own rows others =
    any-table t as_row (λ (x y : R). same_key (key_in (as_row x)) (key_in (as_row y))) rest all db (λ x y. by-key (as_row x) (as_row y) (none x)) own rows others

-- the first flaw of each table
pub kind-first : (db : Database) (k : Kind) → first_of (flaws_of db k) ≡ first_in (flaw_at db) 1 (rows_of db k)
unfolding rows_of
kind-first db kind.Pcf = keyed-table kind.Pcf row.Pcf (drop 1 (pcf_rules db)) db.pcf db (λ r. refl) (λ r. refl) refl (λ n r. refl)
kind-first db kind.Pid = any-table kind.Pid row.Pid same_packet (drop 1 (pid_rules db)) db.pid db (λ x y. sym (by-packet x y)) (λ r. refl) refl (λ n r. refl)
kind-first db kind.Pic = keyed-table kind.Pic row.Pic [] db.pic db (λ r. refl) (λ r. refl) refl (λ n r. refl)
kind-first db kind.Tpcf = keyed-table kind.Tpcf row.Tpcf [] db.tpcf db (λ r. refl) (λ r. refl) refl (λ n r. refl)
kind-first db kind.Plf = keyed-table kind.Plf row.Plf (drop 1 (plf_rules db)) db.plf db (λ r. refl) (λ r. refl) refl (λ n r. refl)
kind-first db kind.Vpd = keyed-table kind.Vpd row.Vpd (drop 1 (vpd_rules db)) db.vpd db (λ r. refl) (λ r. refl) refl (λ n r. refl)
kind-first db kind.Cur = keyed-table kind.Cur row.Cur (drop 1 (cur_rules db)) db.cur db (λ r. refl) (λ r. refl) refl (λ n r. refl)
kind-first db kind.Caf = keyed-table kind.Caf row.Caf (drop 1 (caf_rules db)) db.caf db (λ r. refl) (λ r. refl) refl (λ n r. refl)
kind-first db kind.Cap = keyed-table kind.Cap row.Cap (drop 1 (cap_rules db)) db.cap db (λ r. refl) (λ r. refl) refl (λ n r. refl)
kind-first db kind.Txf = keyed-table kind.Txf row.Txf [] db.txf db (λ r. refl) (λ r. refl) refl (λ n r. refl)
kind-first db kind.Txp = keyed-table kind.Txp row.Txp (drop 1 (txp_rules db)) db.txp db (λ r. refl) (λ r. refl) refl (λ n r. refl)
kind-first db kind.Mcf = keyed-table kind.Mcf row.Mcf [] db.mcf db (λ r. refl) (λ r. refl) refl (λ n r. refl)
kind-first db kind.Lgf = keyed-table kind.Lgf row.Lgf [] db.lgf db (λ r. refl) (λ r. refl) refl (λ n r. refl)
kind-first db kind.Ocf = keyed-table kind.Ocf row.Ocf (drop 1 (ocf_rules db)) db.ocf db (λ r. refl) (λ r. refl) refl (λ n r. refl)
kind-first db kind.Ocp = keyed-table kind.Ocp row.Ocp (drop 1 (ocp_rules db)) db.ocp db (λ r. refl) (λ r. refl) refl (λ n r. refl)

-- an answer that is as another
pub ok-agree : {A E : Type 0} (r : Result A E) (a b : A) → a ≡ b → IfOk r (λ x. x ≡ a) → IfOk r (λ x. x ≡ b)
ok-agree (Ok x) a b same is = is ∙ same
ok-agree (Err e) a b same is = tt

-- the tables one behind the other
over : (f : Kind → List MibFault) (ks : List Kind) → first_of (flat_map f ks) ≡ first_over (λ k. first_of (f k)) ks
over f [] = refl
over f (k ∷ ks) = first-append (f k) (flat_map f ks) ∙ ap (option_or (first_of (f k))) (over f ks)

pub over-tables : (db : Database) → first_flaw db ≡ first_over (λ k. first_of (flaws_of db k)) kinds
unfolding flaws
over-tables db = over (flaws_of db) kinds

module _ (f : Kind → Option MibFault) (ks : List Kind) (i : ℕ) (d : Kind) (within : i < length ks) (first : Option MibFault) (left : first ≡ first_over f (drop i ks)) where
  from-here : first ≡ option_or (f (get_or ks i d)) (first_over f (drop (i + 1) ks))
  from-here = left ∙ ap (first_over f) (drop_more ks i d within)

  pub over-found : (flaw : MibFault) → Some flaw ≡ f (get_or ks i d) → Some flaw ≡ first
  over-found flaw is = sym (from-here ∙ ap (λ o. option_or o (first_over f (drop (i + 1) ks))) (sym is))

  pub over-passed : None ≡ f (get_or ks i d) → first ≡ first_over f (drop (i + 1) ks)
  over-passed is = from-here ∙ ap (λ o. option_or o (first_over f (drop (i + 1) ks))) (sym is)
