-- The places of a layout by its slice.
use Rattle.std.proofs.Common.{◌≡◌, ℕ, suc, ◌<◌, Bool, true, false, cond, ◌||◌, List, [], ◌∷◌, ◌++◌, map, length, get_or, Option, Some, None, option_and_then, refl, sym, ap, ◌∙◌, subst, arith}
use Rattle.std.proofs.lemmas.Slice.Eq.{bytes_eq-Decides}
use Rattle.std.proofs.lemmas.List.{length-map}
use Rattle.std.proofs.lemmas.List.Folds.{list_any_at}
use Rattle.std.proofs.Math.ListN.{get_or-map}
use Rattle.std.specs.List.{find, flat_map, list_any, cons_option}
use Rattle.std.specs.Str.{bytes_eq}
use Rattle.mib_model.specs.declared.plan.TypeItem.{TypeItem}
use Rattle.mib_model.specs.declared.rows.PcfRow.{PcfRow}
use Rattle.mib_model.specs.declared.rows.PlfRow.{PlfRow}
use Rattle.mib_model.specs.declared.database.Database.{Database}
use Rattle.mib_model.specs.Fixed.{places, occurrences}
use Rattle.mib_model.specs.Layouts.{item_named, item_encoding, layout_places}
use Rattle.mib_model.specs.Parameters.{parameter, measured_encoding}
use Rattle.mib_model.specs.Plans.{type_item, type_items, layout_rows}

-- equal octets are the same
pub same_octets : (x y : List ℕ) → bytes_eq x y ≡ true → x ≡ y
same_octets x y = (bytes_eq-Decides x y).0

found-step : {R : Type 0} (p : R → Bool) (y x : R) (here : Bool) (rest : Option R) → p y ≡ here → cond here (Some y) rest ≡ Some x → (rest ≡ Some x → p x ≡ true) → p x ≡ true
found-step {R} p y x true rest h is more =
    let P : R → Type 0 = λ z. p z ≡ true in
    let e : y ≡ x = cc is in subst P e h
found-step p y x false rest h is more = more is

-- what is found passes
found-passes : {R : Type 0} (p : R → Bool) (xs : List R) (x : R) → find p xs ≡ Some x → p x ≡ true
found-passes p [] x is = absurd (cc is)
found-passes p (y ∷ ys) x is = found-step p y x (p y) (find p ys) refl is (found-passes p ys x)

-- the item that a parameter gives, if there is one
abbrev pub item_from : Option PcfRow → Option TypeItem
item_from row = option_and_then (λ r. Some (type_item r)) row

no-choice : (b : Bool) → let none : Option TypeItem = None in cond b none none ≡ none
no-choice true = refl
no-choice false = refl

-- a name without a parameter gives no item
without-item : (db : Database) (n m : List ℕ) (here others : Bool) → bytes_eq m n ≡ here → parameter db.pcf m ≡ None → cond others (item_from (parameter db.pcf n)) None ≡ cond (here || others) (item_from (parameter db.pcf n)) None
without-item db n m false others same none = refl
without-item db n m true others same none =
    let absent : item_from (parameter db.pcf n) ≡ None = ap (λ (x : List ℕ). item_from (parameter db.pcf x)) (sym (same_octets m n same)) ∙ ap item_from none in
    rw absent (no-choice others)

-- a name with a parameter gives its item, or another's
with-item : (db : Database) (n m : List ℕ) (row : PcfRow) (here others : Bool) (rest : Option TypeItem) → bytes_eq m n ≡ here → parameter db.pcf m ≡ Some row → rest ≡ cond others (item_from (parameter db.pcf n)) None → cond here (Some (type_item row)) rest ≡ cond (here || others) (item_from (parameter db.pcf n)) None
with-item db n m row false others rest same some more = more
with-item db n m row true others rest same some more =
    sym (ap item_from some) ∙ ap (λ (x : List ℕ). item_from (parameter db.pcf x)) (same_octets m n same)

-- one name more in front
named-step : (db : Database) (n m : List ℕ) (o : Option PcfRow) (rest : List TypeItem) (others : Bool) → parameter db.pcf m ≡ o → item_named rest n ≡ cond others (item_from (parameter db.pcf n)) None → item_named (cons_option (item_from o) rest) n ≡ cond (bytes_eq m n || others) (item_from (parameter db.pcf n)) None
named-step db n m None rest others none more = more ∙ without-item db n m (bytes_eq m n) others refl none
named-step db n m (Some row) rest others some more =
    let named : row.name ≡ m = same_octets row.name m (found-passes (λ (r : PcfRow). bytes_eq r.name m) db.pcf row some) in
    let first : List ℕ → Option TypeItem = λ name. cond (bytes_eq name n) (Some (type_item row)) (item_named rest n) in
    ap first named ∙ with-item db n m row (bytes_eq m n) others (item_named rest n) refl some more

-- the item of a name among those of names: that of its parameter, where the name is one of them
pub named : (db : Database) (n : List ℕ) (ns : List (List ℕ)) → item_named (type_items db ns) n ≡ cond (list_any (λ m. bytes_eq m n) ns) (item_from (parameter db.pcf n)) None
named db n [] = refl
named db n (m ∷ ms) = named-step db n m (parameter db.pcf m) (type_items db ms) (list_any (λ x. bytes_eq x n) ms) refl (named db n ms)

-- what a parameter's bits are by its item
encoded : (row : Option PcfRow) → option_and_then item_encoding (item_from row) ≡ measured_encoding row
encoded None = refl
encoded (Some row) = refl

-- places by two functions that agree on each row
flat_map-agree : {A B : Type 0} (f g : A → List B) (rows : List A) → ((i : ℕ) (d : A) → i < length rows → f (get_or rows i d) ≡ g (get_or rows i d)) → flat_map f rows ≡ flat_map g rows
flat_map-agree f g [] agree = refl
flat_map-agree f g (row ∷ rows) agree =
    let here : f row ≡ g row = agree 0 row (omega arith) in
    rw here (ap (λ (rest : List _). g row ++ rest) (flat_map-agree f g rows (λ i d below. agree (suc i) d (omega (arith, below)))))

-- the encoding of a row among others, by the items of all names
row-encoding : (db : Database) (rows : List PlfRow) (i : ℕ) (d : PlfRow) → i < length rows → option_and_then item_encoding (item_named (type_items db (map (λ row. row.name) rows)) (get_or rows i d).name) ≡ measured_encoding (parameter db.pcf (get_or rows i d).name)
row-encoding db rows i d below =
    let names : List (List ℕ) = map (λ (row : PlfRow). row.name) rows in
    let n : List ℕ = (get_or rows i d).name in
    let self : bytes_eq n n ≡ true = (bytes_eq-Decides n n).1 refl in
    let inside : i < length names = omega (arith, below, length-map rows (λ (row : PlfRow). row.name)) in
    let at : get_or names i d.name ≡ n = get_or-map (λ (row : PlfRow). row.name) rows i d in
    let there : list_any (λ m. bytes_eq m n) names ≡ true = list_any_at (λ m. bytes_eq m n) names i d.name inside (ap (λ (m : List ℕ). bytes_eq m n) at ∙ self) in
    let item : item_named (type_items db names) n ≡ item_from (parameter db.pcf n) = named db n names ∙ ap (λ (b : Bool). cond b (item_from (parameter db.pcf n)) None) there in
    ap (option_and_then item_encoding) item ∙ encoded (parameter db.pcf n)

pub slices-suffice : (db : Database) (spid : ℕ) → layout_places (layout_rows db spid) (type_items db (map (λ row. row.name) (layout_rows db spid))) ≡ places db spid
unfolding layout_places places
slices-suffice db spid =
    let rows : List PlfRow = layout_rows db spid in
    flat_map-agree _ _ rows (λ i d below. ap (occurrences (get_or rows i d)) (row-encoding db rows i d below))
