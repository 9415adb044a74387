-- Rows of pid by their APID.
use Rattle.std.proofs.Common.{◌≡◌, ℕ, ◌+◌, ◌<◌, ◌≤◌, ◌⊎◌, inl, inr, Bool, true, false, ◌&&◌, List, [], ◌∷◌, ◌++◌, take, length, get_or, set, replicate, Option, Some, None, if◌then◌else◌, refl, sym, ap, subst, ◌∙◌}
use Rattle.std.proofs.lemmas.Bool.{eqb-true, eqb-false, cases_lt}
use Rattle.std.proofs.lemmas.List.{append-nil, take_more, get_or_past, get_or-replicate, get_or-set_other, length-replicate}
use Rattle.std.proofs.lemmas.List.Elements.{filter-append}
use Rattle.std.proofs.lemmas.Grind.{get_or-set_at}
use Rattle.std.proofs.Math.Seq.{take-append_seam}
use Rattle.std.specs.List.{filter, find}
use Rattle.mib_model.specs.declared.rows.PidRow.{PidRow}
use Rattle.ident_plan.specs.declared.fast.kin.Kin.{Kin}
use Rattle.ident_plan.specs.declared.fast.kin.Kin.TheVariants.{Empty, More}
use Rattle.ident_plan.specs.Kins.{is_of, IsKin, AreKins}

step : (rest : PidRow → Bool) (row : PidRow) (kept : List PidRow) (more : Option PidRow) (here : Bool) → more ≡ find rest kept → (if here && rest row then Some row else more) ≡ find rest (if here then row ∷ kept else kept)
step rest row kept more true is = ap (λ (found : Option PidRow). if rest row then Some row else found) is
step rest row kept more false is = is

-- the first row of an APID that passes a test is the first of those of the APID that does
find-of : (pids : List PidRow) (apid : ℕ) (whole rest : PidRow → Bool) → ((row : PidRow) → whole row ≡ (is_of apid row && rest row)) → find whole pids ≡ find rest (filter (is_of apid) pids)
find-of [] apid whole rest same = refl
find-of (row ∷ pids) apid whole rest same =
    let choose : Bool → Option PidRow = λ holds. if holds then Some row else find whole pids in
    ap choose (same row) ∙ step rest row (filter (is_of apid) pids) (find whole pids) (is_of apid row) (find-of pids apid whole rest same)

-- five tests, the first before the others
pub regroup : (a b c d e : Bool) → (a && b && c && d && e) ≡ (a && (b && c && d && e))
regroup true b c d e = refl
regroup false b c d e = refl

-- the rows of an APID, with one more
of-more : (pids : List PidRow) (row : PidRow) (apid : ℕ) (here : Bool) → is_of apid row ≡ here → filter (is_of apid) (pids ++ row ∷ []) ≡ filter (is_of apid) pids ++ (if here then row ∷ [] else [])
of-more pids row apid here is =
    let kept : Bool → List PidRow = λ b. filter (is_of apid) pids ++ (if b then row ∷ [] else []) in
    filter-append (is_of apid) pids (row ∷ []) ∙ ap kept is

-- a row at its APID, where it is noted
pub noted : (pids : List PidRow) (row : PidRow) (kins : List Kin) (place : ℕ) (kin : Kin) → place ≡ row.apid → place < length kins → ((rows : List PidRow) → IsKin rows (get_or kins place More) → IsKin (rows ++ row ∷ []) kin)
    → AreKins pids kins → (apid : ℕ) (here : Bool) → is_of apid row ≡ here → IsKin (filter (is_of apid) (pids ++ row ∷ [])) (get_or (set kins place kin) apid More)
noted pids row kins place kin its below more old apid true is =
    let same : place ≡ apid = its ∙ eqb-true row.apid apid is in
    let before : IsKin (filter (is_of apid) pids) (get_or kins place More) = subst (λ (i : ℕ). IsKin (filter (is_of apid) pids) (get_or kins i More)) (sym same) (old apid) in
    let after : IsKin (filter (is_of apid) pids ++ row ∷ []) kin = more (filter (is_of apid) pids) before in
    let kept : IsKin (filter (is_of apid) (pids ++ row ∷ [])) kin = subst (λ (rows : List PidRow). IsKin rows kin) (sym (of-more pids row apid true is)) after in
    subst (λ (k : Kin). IsKin (filter (is_of apid) (pids ++ row ∷ [])) k) (sym (get_or-set_at kins place apid kin More (sym same) below)) kept
noted pids row kins place kin its below more old apid false is =
    let other : get_or (set kins place kin) apid More ≡ get_or kins apid More = get_or-set_other kins place apid kin More (λ e. eqb-false row.apid apid is (sym its ∙ sym e)) in
    let rows : filter (is_of apid) (pids ++ row ∷ []) ≡ filter (is_of apid) pids = of-more pids row apid false is ∙ append-nil (filter (is_of apid) pids) in
    subst (λ (k : Kin). IsKin (filter (is_of apid) (pids ++ row ∷ [])) k) (sym other) (subst (λ (rs : List PidRow). IsKin rs (get_or kins apid More)) (sym rows) (old apid))

none-at : (count apid : ℕ) → (apid < count) ⊎ (count ≤ apid) → IsKin [] (get_or (replicate count Empty) apid More)
none-at count apid (inl below) = subst (λ (k : Kin). IsKin [] k) (sym (get_or-replicate count apid Empty More below)) refl
none-at count apid (inr past) =
    let short : length (replicate count Empty) ≤ apid = subst (λ (n : ℕ). n ≤ apid) (sym (length-replicate count Empty)) past in
    subst (λ (k : Kin). IsKin [] k) (sym (get_or_past (replicate count Empty) apid More short)) tt

-- before there are rows
pub none-noted : (count : ℕ) (kins : List Kin) → kins ≡ replicate count Empty → AreKins [] kins
none-noted count kins is = λ apid. subst (λ (ks : List Kin). IsKin [] (get_or ks apid More)) (sym is) (none-at count apid (cases_lt apid count))

-- one row further
pub further : (pids : List PidRow) (i : ℕ) (row : PidRow) (kins : List Kin) → i < length pids → AreKins (take i pids ++ get_or pids i row ∷ []) kins → AreKins (take (i + 1) pids) kins
further pids i row kins below so_far = subst (λ (rows : List PidRow). AreKins rows kins) (sym (take_more pids i row below)) so_far

-- a list that was written back whole
pub written : (count : ℕ) (kins rest : List Kin) → count ≡ length kins → take count (kins ++ rest) ≡ kins
written count kins rest is = ap (λ (n : ℕ). take n (kins ++ rest)) is ∙ take-append_seam kins rest

-- where no row is of the APID
pub none-of : (pids : List PidRow) (apid : ℕ) (whole rest : PidRow → Bool) → ((row : PidRow) → whole row ≡ (is_of apid row && rest row)) → filter (is_of apid) pids ≡ [] → None ≡ find whole pids
none-of pids apid whole rest same none = sym (find-of pids apid whole rest same ∙ ap (find rest) none)

-- where one row is
pub one-of : (pids : List PidRow) (apid : ℕ) (whole rest : PidRow → Bool) (row : PidRow) → ((r : PidRow) → whole r ≡ (is_of apid r && rest r)) → filter (is_of apid) pids ≡ row ∷ [] → (if rest row then Some row else None) ≡ find whole pids
one-of pids apid whole rest row same one = sym (find-of pids apid whole rest same ∙ ap (find rest) one)
