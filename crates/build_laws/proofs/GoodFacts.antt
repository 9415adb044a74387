-- Values that items are: lists of them.
use Rattle.std.proofs.Common.{◌≡◌, ◌∙◌, ℕ, zero, suc, Bool, true, false, cond, List, [], ◌∷◌, ◌++◌, length, map, take, drop, Option, Some, None, option_map, option_and_then, refl, sym, ap, subst, arith, length-append}
use Rattle.std.specs.Prelude.{slice_get}
use Rattle.std.specs.List.{AllByRecursion}
use Rattle.std.proofs.lemmas.List.{map-append}
use Rattle.mib_model.specs.declared.packet.Value.{Value}
use Rattle.mib_model.specs.declared.rows.PcfRow.{PcfRow}
use Rattle.mib_model.specs.Encodings.{Encoding, IsEncoding}
use Rattle.mib_model.specs.Parameters.{endian_of, is_measured, measured_encoding, parameter_encoding}
use Rattle.mib_model.specs.Structures.{Typed, typed}
use Rattle.build_rules.specs.declared.item.Item.{Item}
use Rattle.build_rules.specs.Laying.{fits}
use Rattle.build_laws.specs.Laws.{item_of}

-- a value's bits are of some type, and its number is one of them
pub record IsLaid (v : Value) : Type 0 where
  pub has : IsEncoding v.shape
  pub fit : fits v.shape v.raw ≡ true

-- values are the first items
pub record AreItems (items : List Item) (values : List Value) : Type 0 where
  pub named : map item_of values ≡ take (length values) items
  pub laid : AllByRecursion IsLaid values

-- ---- lists

take-one : {X : Type 0} (xs : List X) (n : ℕ) (x : X) → slice_get xs n ≡ Some x → take (suc n) xs ≡ take n xs ++ x ∷ []
take-one [] n x is = absurd (cc is)
take-one (y ∷ ys) zero x is = let same : y ≡ x = cc is in ap (λ z. z ∷ []) same
take-one (y ∷ ys) (suc n) x is = ap (λ zs. y ∷ zs) (take-one ys n x is)

pub drop-one : {X : Type 0} (xs : List X) (n : ℕ) (x : X) → slice_get xs n ≡ Some x → drop n xs ≡ x ∷ drop (suc n) xs
drop-one [] n x is = absurd (cc is)
drop-one (y ∷ ys) zero x is = let same : y ≡ x = cc is in ap (λ z. z ∷ ys) same
drop-one (y ∷ ys) (suc n) x is = drop-one ys n x is

pub all-more : {X : Type 0} (P : X → Type 0) (xs : List X) (x : X) → AllByRecursion P xs → P x → AllByRecursion P (xs ++ x ∷ [])
all-more P [] x all p = (p, tt)
all-more P (y ∷ ys) x all p = (all.0, all-more P ys x all.1 p)

-- of a list the first behind a front
pub all-at : {X : Type 0} (P : X → Type 0) (xs : List X) (x : X) (ys : List X) → AllByRecursion P ((xs ++ x ∷ []) ++ ys) → P x
all-at P [] x ys all = all.0
all-at P (z ∷ zs) x ys all = all-at P zs x ys all.1

-- one item more
pub items-more : (items : List Item) (values : List Value) (v : Value) → AreItems items values → slice_get items (length values) ≡ Some (item_of v) → IsLaid v → AreItems items (values ++ v ∷ [])
items-more items values v are next laid = record {
  named =
      let n : length (values ++ v ∷ []) ≡ suc (length values) = omega (arith, length-append values (v ∷ [])) in
      map-append item_of values (v ∷ []) ∙ (ap (λ (is : List Item). is ++ item_of v ∷ []) are.named
      ∙ (sym (take-one items (length values) (item_of v) next) ∙ ap (λ (k : ℕ). take k items) (sym n)));
  laid = all-more IsLaid values v are.laid laid;
}

-- ---- types

typed-has : (row : PcfRow) (o : Option Encoding) (t : Typed) → parameter_encoding row ≡ o → option_map (λ e. (row, e)) o ≡ Some t → IsEncoding t.1
typed-has row None t same is = absurd (cc is)
typed-has row (Some e) t same is = let typed : (row, e) ≡ t = cc is in subst (λ (x : Typed). IsEncoding x.1) typed (row.ptc, row.pfc, endian_of row.endian, same)

pub subject-has : (o : Option PcfRow) (t : Typed) → option_and_then typed o ≡ Some t → IsEncoding t.1
subject-has None t is = absurd (cc is)
subject-has (Some row) t is = typed-has row (parameter_encoding row) t refl is

pub measured-has : (o : Option PcfRow) (e : Encoding) → measured_encoding o ≡ Some e → IsEncoding e
measured-has None e is = absurd (cc is)
measured-has (Some row) e is = go (is_measured row) is where
  go : (b : Bool) → cond b (parameter_encoding row) None ≡ Some e → IsEncoding e
  go true is = (row.ptc, row.pfc, endian_of row.endian, is)
  go false is = absurd (cc is)
