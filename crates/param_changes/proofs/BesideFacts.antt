-- Plans of parameters beside those of a base: what is kept is the same, and what differs is new.
use Rattle.std.proofs.Common.{◌≡◌, ◌∙◌, ℕ, zero, suc, ◌+◌, ◌<◌, ◌≤◌, Bool, true, false, ◌||◌, not, cond, if◌then◌else◌, ◌==◌, List, [], ◌∷◌, ◌++◌, Option, Some, None, length, get_or, take, map, option_map, unwrap_or, filter, find, refl, sym, ap, subst, arith}
use Rattle.std.proofs.lemmas.List.{length-map}
use Rattle.std.specs.Cmp.{tied_itself}
use Rattle.std.specs.Cmp.Lexicographic.{nat_list_cmp_total, pointwise}
use Rattle.std.specs.List.{list_any}
use Rattle.std.specs.Option.{option_eq, option_or}
use Rattle.std.specs.Str.{bytes_eq}
use Rattle.edition_plans.specs.Params.{param_slices}
use Rattle.param_state.specs.ParamPlans.{plan_names}
use Rattle.mib_model.specs.Checks.{checks_of}
use Rattle.mib_model.specs.Columns.{Column, Cells}
use Rattle.mib_model.specs.Curves.{curve_named, selections}
use Rattle.mib_model.specs.CurveTables.{caf, caf_cells, cap, cap_cells, lgf, lgf_cells, mcf, mcf_cells}
use Rattle.mib_model.specs.declared.database.Database.{Database}
use Rattle.mib_model.specs.declared.plan.CurveRows.{CurveRows}
use Rattle.mib_model.specs.declared.plan.CurveRows.TheVariants.{Points, Texts, Poly, Log}
use Rattle.mib_model.specs.declared.rows.CafRow.{CafRow}
use Rattle.mib_model.specs.declared.rows.CapRow.{CapRow}
use Rattle.mib_model.specs.declared.rows.CurRow.{CurRow}
use Rattle.mib_model.specs.declared.rows.LgfRow.{LgfRow}
use Rattle.mib_model.specs.declared.rows.McfRow.{McfRow}
use Rattle.mib_model.specs.declared.rows.OcpRow.{OcpRow}
use Rattle.mib_model.specs.declared.rows.PcfRow.{PcfRow}
use Rattle.mib_model.specs.declared.rows.TxfRow.{TxfRow}
use Rattle.mib_model.specs.declared.rows.TxpRow.{TxpRow}
use Rattle.mib_model.specs.Letters.{letter}
use Rattle.mib_model.specs.Orders.{sorted_by, sorted_by_number}
use Rattle.mib_model.specs.ParameterTables.{ocf, ocf_cells, ocp, ocp_cells, pcf, pcf_cells}
use Rattle.mib_model.specs.Plans.{curve_names, curves_for, has_plan, may_precede}
use Rattle.mib_model.specs.Points.{first_of}
use Rattle.mib_model.specs.RowTexts.{is_of_states}
use Rattle.mib_model.specs.Sameness.{same_cells}
use Rattle.mib_model.specs.SameRows.{same_cap, same_cur, same_ocf, same_ocp, same_txp}
use Rattle.mib_model.specs.TextTables.{cur, cur_cells, txf, txf_cells, txp, txp_cells}
use Rattle.mib_model.specs.Touched.{same_curve, same_slice}
use Rattle.param_plan.proofs.NameFacts.{named-found}
use Rattle.param_plan.specs.Names.{Ascend}
use Rattle.param_plan.specs.Slices.{ParamSlice, as_slice, slice_for}
use Rattle.param_changes.proofs.AlikeFacts.{found-own, name-now, planned-now}
use Rattle.param_set.proofs.CountFacts.{long-names, planned-most}
use Rattle.param_changes.proofs.NoteFacts.{any-images}
use Rattle.param_set.proofs.PlanFacts.{find-first}
use Rattle.param_set.proofs.UniqueFacts.{Once, named, named-planned, planned-once, planned_rows}
use Rattle.param_changes.specs.Beside.{AreAlike, HasRows, IsKeptBy, has_changed, has_changed_curve, is_other, now_of, one_if}
use Rattle.param_changes.specs.Changed.{AreChanged, AreCurvesKept, AreRowsKept, has_name, takes_any}
use Rattle.param_changes.specs.declared.changed.Changed.{Changed}
use Rattle.param_set.specs.Sharing.{is_as_before, is_new, new_names}
use Rattle.param_set.specs.Sources.{row_now}
use Rattle.row_laws.proofs.SameFacts.{same_values-Decides}

-- ---- what is equal is the same

own-cells : (columns : List Column) (x : Cells columns) → same_cells columns x x ≡ true
own-cells columns x = (same_values-Decides columns x x).1 refl

own-list : {R : Type 0} (same : R → R → Bool) → ((x : R) → same x x ≡ true) → (xs : List R) → pointwise same xs xs ≡ true
own-list same each [] = refl
own-list same each (x ∷ xs) = rw (each x) (own-list same each xs)

own-option : {R : Type 0} (same : R → R → Bool) → ((x : R) → same x x ≡ true) → (o : Option R) → option_eq same o o ≡ true
own-option same each None = refl
own-option same each (Some x) = each x

own-curve : (c : CurveRows) → same_curve c c ≡ true
own-curve (Points row rows) = rw (own-cells caf (caf_cells row)) (own-list same_cap (λ r. own-cells cap (cap_cells r)) rows)
own-curve (Texts row rows) = rw (own-cells txf (txf_cells row)) (own-list same_txp (λ r. own-cells txp (txp_cells r)) rows)
own-curve (Poly row) = own-cells mcf (mcf_cells row)
own-curve (Log row) = own-cells lgf (lgf_cells row)

-- a slice is the same as itself
pub own-slice : (s : ParamSlice) → same_slice (as_slice s) (as_slice s) ≡ true
unfolding same_slice
own-slice s =
    rw (
      own-cells pcf (pcf_cells s.pcf),
      own-list same_cur (λ r. own-cells cur (cur_cells r)) s.curs,
      own-list (option_eq same_curve) (own-option same_curve own-curve) s.curves,
      own-option same_ocf (λ r. own-cells ocf (ocf_cells r)) s.ocf,
    )
    (own-list same_ocp (λ r. own-cells (ocp (is_of_states r.sort)) (ocp_cells (is_of_states r.sort) r)) s.ocps)

-- ---- what a slice has of rows that did not change

-- what is found among rows that have the same rows of a name
same-found : {R : Type 0} (p : R → Bool) (xs ys : List R) → filter p xs ≡ filter p ys → find p xs ≡ find p ys
same-found p xs ys same = find-first p xs ∙ ap first_of same ∙ sym (find-first p ys)

-- the curve of the rows that are found
abbrev curve_from : ℕ → Option CafRow → List CapRow → Option TxfRow → List TxpRow → Option McfRow → Option LgfRow → Option CurveRows
curve_from categ caf caps txf txps mcf lgf =
    if categ == letter "S" then option_map (λ row. Texts row txps) txf
    else if categ == letter "T" then None
    else option_or (option_map (λ row. Points row caps) caf) (option_or (option_map Poly mcf) (option_map Log lgf))

-- curves of the same rows
curve-kept : (old new : Database) (name : List ℕ) → AreCurvesKept old new name → (categ : ℕ) → curve_named old categ name ≡ curve_named new categ name
unfolding curve_named
curve-kept old new name kept categ =
    let cafs = same-found (λ (r : CafRow). bytes_eq r.numbr name) old.caf new.caf kept.caf in
    let txfs = same-found (λ (r : TxfRow). bytes_eq r.numbr name) old.txf new.txf kept.txf in
    let mcfs = same-found (λ (r : McfRow). bytes_eq r.ident name) old.mcf new.mcf kept.mcf in
    let lgfs = same-found (λ (r : LgfRow). bytes_eq r.ident name) old.lgf new.lgf kept.lgf in
    λ i. curve_from categ (cafs i) (kept.cap i) (txfs i) (kept.txp i) (mcfs i) (lgfs i)

either-false : (a b : Bool) → (a || b) ≡ false → (a ≡ false) × (b ≡ false)
either-false true b none = absurd (cc none)
either-false false b none = (refl, none)

-- images of names of which none is among some
kept-images : {Y : Type 0} (f g : List ℕ → Y) (p : List ℕ → Bool) → ((name : List ℕ) → p name ≡ false → f name ≡ g name) → (names : List (List ℕ)) → list_any p names ≡ false → map f names ≡ map g names
kept-images f g p same [] none = refl
kept-images f g p same (n ∷ names) none =
    let parts = either-false (p n) (list_any p names) none in
    let first : f n ≡ g n = same n parts.0 in
    let rest : map f names ≡ map g names = kept-images f g p same names parts.1 in
    λ i. first i ∷ rest i

first-planned : (rows : List PcfRow) (x : PcfRow) → length rows ≤ 1 → first_of (filter has_plan rows) ≡ Some x → first_of rows ≡ Some x
first-planned [] x few is = is
first-planned (r ∷ []) x few is = go (has_plan r) is where
  go : (b : Bool) → first_of (cond b (r ∷ []) []) ≡ Some x → Some r ≡ Some x
  go true h = h
  go false h = absurd (cc h)
first-planned (r ∷ s ∷ rows) x few is = absurd (omega (arith, few))

-- a parameter that has a plan is found by its name
found-planned : (db : Database) → Once db.pcf → (i : ℕ) (row : PcfRow) → i < length (planned_rows db) → row ≡ get_or (planned_rows db) i row → find (named row.name) db.pcf ≡ Some row
found-planned db once i row below is =
    let found : find (named row.name) (planned_rows db) ≡ Some row = found-own (planned_rows db) (planned-once db once) i row below is in
    find-first (named row.name) db.pcf
    ∙ first-planned (filter (named row.name) db.pcf) row (once row.name) (ap first_of (sym (named-planned db row.name)) ∙ sym (find-first (named row.name) (planned_rows db)) ∙ found)

-- no name of a curve that a parameter may take is among some
none-taken : (names : List (List ℕ)) (curtx : Option (List ℕ)) (curs : List CurRow) → takes_any names curtx curs ≡ false → list_any (has_name names) (curve_names curtx curs) ≡ false
none-taken names (Some name) curs none = rw none refl
none-taken names None curs none = any-images (has_name names) (λ (cur : CurRow). cur.curve) curs ∙ none

module _ (changed : Changed) (old new : Database) (notes : AreChanged changed old new) (once : Once old.pcf) where
  rows-kept : (row : PcfRow) → find (named row.name) old.pcf ≡ Some row → has_name changed.parameters.items row.name ≡ false → HasRows (slice_for old row) new
  unfolding selections checks_of
  rows-kept row own none =
      let kept : AreRowsKept old new row.name = notes.parameters row.name none in
      let found : find (named row.name) new.pcf ≡ Some row = sym (same-found (named row.name) old.pcf new.pcf kept.pcf) ∙ own in
      record {
        pcf = ap (λ r. unwrap_or r row) found;
        curs = ap (sorted_by_number (λ (r : CurRow). r.pos)) kept.cur;
        ocf = same-found (λ r. bytes_eq r.name row.name) old.ocf new.ocf kept.ocf;
        ocps = ap (sorted_by_number (λ (r : OcpRow). r.pos)) kept.ocp;
      }

  curves-kept : (row : PcfRow) → HasRows (slice_for old row) new → takes_any changed.curves.items row.curtx (selections old row.name) ≡ false → curves_for old row ≡ curves_for new row
  curves-kept row rows none =
      kept-images (curve_named old row.categ) (curve_named new row.categ) (has_name changed.curves.items) (λ name h. curve-kept old new name (notes.curves name h) row.categ) (curve_names row.curtx (selections old row.name)) (none-taken changed.curves.items row.curtx (selections old row.name) none)
      ∙ ap (λ (curs : List CurRow). map (curve_named new row.categ) (curve_names row.curtx curs)) rows.curs

  row-kept : (row : PcfRow) → find (named row.name) old.pcf ≡ Some row → IsKeptBy changed (slice_for old row) new
  row-kept row own = record {
    rows = rows-kept row own;
    curves = λ none without. curves-kept row (rows-kept row own none) without;
  }

  each-kept : (rows : List PcfRow) → ((i : ℕ) (row : PcfRow) → i < length rows → row ≡ get_or rows i row → find (named row.name) old.pcf ≡ Some row)
      → (i : ℕ) (slice : ParamSlice) → i < length (map (slice_for old) rows) → slice ≡ get_or (map (slice_for old) rows) i slice → IsKeptBy changed slice new
  each-kept [] own i slice below is = absurd (omega (arith, below))
  each-kept (row ∷ rows) own zero slice below is = subst (λ (s : ParamSlice). IsKeptBy changed s new) (sym is) (row-kept row (own zero row (omega arith) refl))
  each-kept (row ∷ rows) own (suc i) slice below is = each-kept rows (λ k r low at. own (suc k) r (omega (arith, low)) at) i slice (omega (arith, below)) is

  -- what did not change of each slice of the old database is that of its parameter in the new one
  pub slices-kept : (i : ℕ) (slice : ParamSlice) → i < length (param_slices old) → slice ≡ get_or (param_slices old) i slice → IsKeptBy changed slice new
  unfolding param_slices
  slices-kept = each-kept (planned_rows old) (found-planned old once)

module _ (changed : Changed) (slice : ParamSlice) (db : Database) (kept : IsKeptBy changed slice db) where
  -- a slice of which nothing changed is that of its parameter
  pub kept-now : has_changed changed slice ≡ false → has_changed_curve changed slice ≡ false → slice ≡ now_of db slice
  kept-now none without =
      let rows = kept.rows none in
      let curves = kept.curves none without in
      let row : slice.pcf ≡ row_now db slice.pcf = sym rows.pcf in
      (λ i. record { pcf = slice.pcf; curs = rows.curs i; curves = curves i; ocf = rows.ocf i; ocps = rows.ocps i }) ∙ ap (slice_for db) row

-- a slice that is that of its parameter is no other
pub not-other : (db : Database) (slice : ParamSlice) → slice ≡ now_of db slice → false ≡ is_other db slice
not-other db slice same = ap not (sym (own-slice slice)) ∙ ap (λ (s : ParamSlice). not (same_slice (as_slice slice) (as_slice s))) same

-- ---- the slices of parameters alike

now-rows : (db : Database) (old : Database) (rows : List PcfRow) → map (now_of db) (map (slice_for old) rows) ≡ map (slice_for db) (map (row_now db) rows)
now-rows db old [] = refl
now-rows db old (row ∷ rows) = ap (λ (slices : List ParamSlice). slice_for db (row_now db row) ∷ slices) (now-rows db old rows)

-- where parameters are alike, the slices are those of the old ones' parameters
pub slices-now : (old new : Database) → Once new.pcf → AreAlike old.pcf new.pcf → map (now_of new) (param_slices old) ≡ param_slices new
unfolding param_slices
slices-now old new once alike = now-rows new old (planned_rows old) ∙ ap (map (slice_for new)) (planned-now new old.pcf once alike)

-- ---- what is new

-- the names of images that pass
named-images : {X Y N : Type 0} (f : X → Y) (p : Y → Bool) (q : X → Bool) (n : Y → N) (m : X → N) → ((x : X) → n (f x) ≡ m x) → (xs : List X)
    → ((i : ℕ) (x : X) → i < length xs → x ≡ get_or xs i x → p (f x) ≡ q x) → map n (filter p (map f xs)) ≡ map m (filter q xs)
named-images f p q n m names [] same = refl
named-images {X} {Y} {N} f p q n m names (x ∷ xs) same =
    go (p (f x)) (q x) (same zero x (omega arith) refl) (named-images f p q n m names xs (λ i y below is. same (suc i) y (omega (arith, below)) is)) where
      go : (b c : Bool) → b ≡ c → map n (filter p (map f xs)) ≡ map m (filter q xs) → map n (cond b (f x ∷ filter p (map f xs)) (filter p (map f xs))) ≡ map m (cond c (x ∷ filter q xs) (filter q xs))
      go true true e others = let first = names x in (λ i. first i ∷ others i)
      go true false e others = absurd (cc e)
      go false true e others = absurd (cc e)
      go false false e others = others

-- a slice among those that ascend by name is found by its name
pub own-named : (slices : List ParamSlice) → Ascend slices → (i : ℕ) (slice : ParamSlice) → i < length slices → slice ≡ get_or slices i slice
    → find (λ old. bytes_eq old.pcf.name slice.pcf.name) slices ≡ Some slice
own-named slices ascend i slice below is =
    named-found (λ (s : ParamSlice). s.pcf.name) slice.pcf.name slices ascend i slice below (sym is) (tied_itself nat_list_cmp_total slice.pcf.name)

-- the names of slices that are new to slices that ascend by name are those of the ones that are other ones now
pub new-others : (db : Database) (slices : List ParamSlice) → Ascend slices → new_names slices (map (now_of db) slices) ≡ plan_names (filter (is_other db) slices)
unfolding is_new
new-others db slices ascend = named-images (now_of db) (is_new slices) (is_other db) (λ slice. slice.pcf.name) (λ slice. slice.pcf.name) (λ slice. name-now db slice.pcf) slices (λ i slice below is.
    ap (λ found. not (is_as_before (now_of db slice) found))
    (ap (λ (name : List ℕ). find (λ old. bytes_eq old.pcf.name name) slices) (name-now db slice.pcf) ∙ own-named slices ascend i slice below is))

-- as many slices are new to slices that ascend by name as are other ones now
pub count-others : (db : Database) (slices : List ParamSlice) → Ascend slices → length (filter (is_new slices) (map (now_of db) slices)) ≡ length (filter (is_other db) slices)
count-others db slices ascend =
    sym (long-names (filter (is_new slices) (map (now_of db) slices))) ∙ ap length (new-others db slices ascend) ∙ long-names (filter (is_other db) slices)

-- of one slice
pub count-one : (p : ParamSlice → Bool) (slice : ParamSlice) → length (filter p (slice ∷ [])) ≡ one_if (p slice)
count-one p slice = go (p slice) where
  go : (b : Bool) → length (cond b (slice ∷ []) []) ≡ one_if b
  go true = refl
  go false = refl

-- no more slices than parameters
pub few-slices : (db : Database) → length (param_slices db) ≤ length db.pcf
unfolding param_slices
few-slices db =
    let rows : List PcfRow = sorted_by (λ x y. may_precede x.name y.name) (filter has_plan db.pcf) in
    let long : length (map (slice_for db) rows) ≡ length rows = simp length-map in
    let most : length rows ≤ length db.pcf = planned-most (λ x y. may_precede x.name y.name) has_plan db.pcf in
    omega (arith, long, most)
