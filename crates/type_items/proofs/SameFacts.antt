-- Lists and type items that are the same are equal.
use Rattle.std.proofs.Common.{◌≡◌, nat_eq, Bool, true, false, ◌&&◌, List, [], ◌∷◌, refl}
use Rattle.std.proofs.lemmas.Bool.{eq-eqb, eqb-true}
use Rattle.std.proofs.lemmas.Slice.Eq.{bytes_eq-Decides}
use Rattle.std.specs.Cmp.Lexicographic.{pointwise}
use Rattle.std.specs.Str.{bytes_eq}
use Rattle.mib_model.specs.declared.plan.TypeItem.{TypeItem}
use Rattle.mib_model.specs.declared.shape.Endian.{Endian}
use Rattle.mib_model.specs.declared.shape.Endian.TheVariants as endian
use Rattle.mib_model.specs.Touched.{same_endian, same_type_item}

-- both parts of what is true
pub both : (a b : Bool) → (a && b) ≡ true → (a ≡ true) × (b ≡ true)
both true b h = (refl, h)
both false b h = absurd (cc h)

-- lists whose items are the same are equal, where such items are
pub equal-lists : {A : Type 0} (same : A → A → Bool) → ((x y : A) → same x y ≡ true → x ≡ y) → (xs ys : List A) → pointwise same xs ys ≡ true → xs ≡ ys
equal-lists same equal [] [] h = refl
equal-lists same equal [] (y ∷ ys) h = absurd (cc h)
equal-lists same equal (x ∷ xs) [] h = absurd (cc h)
equal-lists same equal (x ∷ xs) (y ∷ ys) h =
    let parts = both (same x y) (pointwise same xs ys) h in
    let first : x ≡ y = equal x y parts.0 in
    let rest : xs ≡ ys = equal-lists same equal xs ys parts.1 in
    cc

equal-endian : (x y : Endian) → same_endian x y ≡ true → x ≡ y
equal-endian endian.B endian.B h = refl
equal-endian endian.L endian.L h = refl
equal-endian endian.B endian.L h = absurd (cc h)
equal-endian endian.L endian.B h = absurd (cc h)

-- type items that are the same are equal
pub equal-items : (x y : TypeItem) → same_type_item x y ≡ true → x ≡ y
equal-items x y h =
    let orders = both (bytes_eq x.name y.name && nat_eq x.ptc y.ptc && nat_eq x.pfc y.pfc && nat_eq x.width y.width && nat_eq x.natur y.natur) (same_endian x.endian y.endian) h in
    let natures = both (bytes_eq x.name y.name && nat_eq x.ptc y.ptc && nat_eq x.pfc y.pfc && nat_eq x.width y.width) (nat_eq x.natur y.natur) orders.0 in
    let widths = both (bytes_eq x.name y.name && nat_eq x.ptc y.ptc && nat_eq x.pfc y.pfc) (nat_eq x.width y.width) natures.0 in
    let formats = both (bytes_eq x.name y.name && nat_eq x.ptc y.ptc) (nat_eq x.pfc y.pfc) widths.0 in
    let types = both (bytes_eq x.name y.name) (nat_eq x.ptc y.ptc) formats.0 in
    let name : x.name ≡ y.name = (bytes_eq-Decides x.name y.name).0 types.0 in
    let ptc : x.ptc ≡ y.ptc = eqb-true x.ptc y.ptc types.1 in
    let pfc : x.pfc ≡ y.pfc = eqb-true x.pfc y.pfc formats.1 in
    let width : x.width ≡ y.width = eqb-true x.width y.width widths.1 in
    let natur : x.natur ≡ y.natur = eqb-true x.natur y.natur natures.1 in
    let order : x.endian ≡ y.endian = equal-endian x.endian y.endian orders.1 in
    λ i. record { name = name i; ptc = ptc i; pfc = pfc i; width = width i; natur = natur i; endian = order i }

-- items that are each the same as themselves make lists that are
pub same-lists : {A : Type 0} (same : A → A → Bool) → ((x : A) → same x x ≡ true) → (xs : List A) → pointwise same xs xs ≡ true
same-lists same each [] = refl
same-lists same each (x ∷ xs) = rw (each x) (same-lists same each xs)

same-order : (x : Endian) → same_endian x x ≡ true
same-order endian.B = refl
same-order endian.L = refl

-- a type item is the same as itself
pub same-item : (x : TypeItem) → same_type_item x x ≡ true
same-item x =
    rw ((bytes_eq-Decides x.name x.name).1 refl, eq-eqb x.ptc x.ptc refl, eq-eqb x.pfc x.pfc refl, eq-eqb x.width x.width refl, eq-eqb x.natur x.natur refl)
    (same-order x.endian)
