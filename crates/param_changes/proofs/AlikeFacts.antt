-- Parameters of the same names at the same places: those of one database are found by the names of the other's.
use Rattle.std.proofs.Common.{◌≡◌, ◌∙◌, ℕ, zero, suc, ◌≤◌, ◌<◌, Bool, true, false, cond, List, [], ◌∷◌, Some, length, get_or, map, filter, find, unwrap_or, refl, sym, ap, subst, arith}
use Rattle.std.proofs.lemmas.Bool.{false≢true}
use Rattle.std.proofs.lemmas.Cmp.{nat_list_eq_equiv}
use Rattle.std.specs.Cmp.Lexicographic.{bytes_decides}
use Rattle.std.specs.Str.{bytes_eq}
use Rattle.mib_model.specs.declared.database.Database.{Database}
use Rattle.mib_model.specs.declared.rows.PcfRow.{PcfRow}
use Rattle.mib_model.specs.Orders.{sorted_by}
use Rattle.mib_model.specs.Plans.{has_plan, may_precede}
use Rattle.param_set.proofs.OrderFacts.{map-sorted}
use Rattle.param_set.proofs.UniqueFacts.{Once, named, once-tail}
use Rattle.param_changes.specs.Beside.{AreAlike}
use Rattle.param_set.specs.Sources.{row_now}

-- ---- what is found by the name of one of the rows

counted-once : (rows : List PcfRow) (i : ℕ) (x : PcfRow) → i < length rows → x ≡ get_or rows i x → 1 ≤ length (filter (named x.name) rows)
counted-once [] i x below is = absurd (omega (arith, below))
counted-once (y ∷ ys) zero x below is =
    let own : named x.name y ≡ true = subst (λ (r : PcfRow). named x.name r ≡ true) is (nat_list_eq_equiv.refl x.name) in
    rw own (omega arith)
counted-once (y ∷ ys) (suc i) x below is = go (named x.name y) (counted-once ys i x (omega (arith, below)) is) where
  go : (b : Bool) → 1 ≤ length (filter (named x.name) ys) → 1 ≤ length (cond b (y ∷ filter (named x.name) ys) (filter (named x.name) ys))
  go true h = omega arith
  go false h = h

-- each row of rows of which each has a name of its own
pub found-own : (rows : List PcfRow) → Once rows → (i : ℕ) (x : PcfRow) → i < length rows → x ≡ get_or rows i x → find (named x.name) rows ≡ Some x
found-own [] once i x below is = absurd (omega (arith, below))
found-own (y ∷ ys) once zero x below is =
    let own : named x.name y ≡ true = subst (λ (r : PcfRow). named x.name r ≡ true) is (nat_list_eq_equiv.refl x.name) in
    rw own (ap Some (sym is))
found-own (y ∷ ys) once (suc i) x below is = go (named x.name y) refl (found-own ys (once-tail y ys once) i x (omega (arith, below)) is) where
  behind : 1 ≤ length (filter (named x.name) ys)
  behind = counted-once ys i x (omega (arith, below)) is

  go : (b : Bool) → named x.name y ≡ b → find (named x.name) ys ≡ Some x → cond b (Some y) (find (named x.name) ys) ≡ Some x
  go true own others =
      let all : filter (named x.name) (y ∷ ys) ≡ y ∷ filter (named x.name) ys = rw own refl in
      absurd (omega (arith, once x.name, behind, ap length all))
  go false other others = others

counted-alike : (name : List ℕ) (olds news : List PcfRow) → map (λ row. row.name) olds ≡ map (λ row. row.name) news → length (filter (named name) olds) ≡ length (filter (named name) news)
counted-alike name [] [] names = refl
counted-alike name [] (n ∷ ns) names = absurd (cc names)
counted-alike name (o ∷ os) [] names = absurd (cc names)
counted-alike name (o ∷ os) (n ∷ ns) names =
    let own : o.name ≡ n.name = cc names in
    let others : map (λ row. row.name) os ≡ map (λ row. row.name) ns = cc names in
    go (named name o) (named name n) (ap (λ other. bytes_eq other name) own) (counted-alike name os ns others) where
      go : (a b : Bool) → a ≡ b → length (filter (named name) os) ≡ length (filter (named name) ns) → length (cond a (o ∷ filter (named name) os) (filter (named name) os)) ≡ length (cond b (n ∷ filter (named name) ns) (filter (named name) ns))
      go true true e h = ap suc h
      go true false e h = absurd (false≢true (sym e))
      go false true e h = absurd (false≢true e)
      go false false e h = h

-- ---- the rows of the names of others

module _ (db : Database) where
  each-now : (olds news : List PcfRow) → map (λ row. row.name) olds ≡ map (λ row. row.name) news
      → ((i : ℕ) (x : PcfRow) → i < length news → x ≡ get_or news i x → find (named x.name) db.pcf ≡ Some x) → map (row_now db) olds ≡ news
  each-now [] [] names found = refl
  each-now [] (n ∷ ns) names found = absurd (cc names)
  each-now (o ∷ os) [] names found = absurd (cc names)
  each-now (o ∷ os) (n ∷ ns) names found =
      let own : o.name ≡ n.name = cc names in
      let others : map (λ row. row.name) os ≡ map (λ row. row.name) ns = cc names in
      let first : row_now db o ≡ n =
      ap (λ name. unwrap_or (find (named name) db.pcf) o) own ∙ ap (λ r. unwrap_or r o) (found zero n (omega arith) refl) in
      let rest : map (row_now db) os ≡ ns = each-now os ns others (λ i x below is. found (suc i) x (omega (arith, below)) is) in
      λ i. first i ∷ rest i

  found-named : (name : List ℕ) (rows : List PcfRow) (row : PcfRow) → row.name ≡ name → (unwrap_or (find (named name) rows) row).name ≡ name
  found-named name [] row own = own
  found-named name (r ∷ rs) row own = go (named name r) refl (found-named name rs row own) where
    go : (b : Bool) → named name r ≡ b → (unwrap_or (find (named name) rs) row).name ≡ name → (unwrap_or (cond b (Some r) (find (named name) rs)) row).name ≡ name
    go true is others = (bytes_decides r.name name).0 is
    go false is others = others

  -- it has the name that it is looked for by
  pub name-now : (row : PcfRow) → (row_now db row).name ≡ row.name
  name-now row = found-named row.name db.pcf row refl

  filter-now : (rows : List PcfRow) → map has_plan rows ≡ map has_plan (map (row_now db) rows) → filter has_plan (map (row_now db) rows) ≡ map (row_now db) (filter has_plan rows)
  filter-now [] planned = refl
  filter-now (r ∷ rs) planned =
      let own : has_plan r ≡ has_plan (row_now db r) = cc planned in
      let others : map has_plan rs ≡ map has_plan (map (row_now db) rs) = cc planned in
      go (has_plan r) (has_plan (row_now db r)) own (filter-now rs others) where
        go : (a b : Bool) → a ≡ b → filter has_plan (map (row_now db) rs) ≡ map (row_now db) (filter has_plan rs)
            → cond b (row_now db r ∷ filter has_plan (map (row_now db) rs)) (filter has_plan (map (row_now db) rs)) ≡ map (row_now db) (cond a (r ∷ filter has_plan rs) (filter has_plan rs))
        go true true e h = ap (λ (rows : List PcfRow). row_now db r ∷ rows) h
        go true false e h = absurd (false≢true (sym e))
        go false true e h = absurd (false≢true e)
        go false false e h = h

  sorted-now : (rows : List PcfRow) → map (row_now db) (sorted_by (λ x y. may_precede x.name y.name) rows) ≡ sorted_by (λ x y. may_precede x.name y.name) (map (row_now db) rows)
  sorted-now rows =
      (λ i. map (row_now db) (sorted_by (λ x y. may_precede (sym (name-now x) i) (sym (name-now y) i)) rows))
      ∙ map-sorted (row_now db) (λ x y. may_precede x.name y.name) rows

-- the parameters that have plans, in order
abbrev planned : List PcfRow → List PcfRow
planned rows = sorted_by (λ x y. may_precede x.name y.name) (filter has_plan rows)

-- where a database has parameters alike, each of a name of its own, those that have plans are found by the names of the others
pub planned-now : (db : Database) (olds : List PcfRow) → Once db.pcf → AreAlike olds db.pcf → map (row_now db) (planned olds) ≡ planned db.pcf
planned-now db olds once alike =
    let all : map (row_now db) olds ≡ db.pcf = each-now db olds db.pcf alike.names (found-own db.pcf once) in
    let tests : map has_plan olds ≡ map has_plan (map (row_now db) olds) = alike.planned ∙ ap (map has_plan) (sym all) in
    sorted-now db (filter has_plan olds)
    ∙ ap (sorted_by (λ (x y : PcfRow). may_precede x.name y.name)) (sym (filter-now db olds tests) ∙ ap (filter has_plan) all)

-- rows of the names of rows that have each a name of their own
pub once-alike : (olds news : List PcfRow) → map (λ row. row.name) olds ≡ map (λ row. row.name) news → Once news → Once olds
once-alike olds news names once name = let long = counted-alike name olds news names in omega (arith, once name, long)
