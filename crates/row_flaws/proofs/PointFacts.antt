-- Points that stand twice, by what is noted of them.
use Rattle.std.proofs.Common.{◌≡◌, ℕ, zero, suc, ◌+◌, ◌-◌, ℤ, Bool, true, false, cond, not, ◌&&◌, List, [], ◌∷◌, take, Option, Some, None, option_map, is_some, refl, sym, ap, ◌∙◌, nat_lt, arith}
use Rattle.std.proofs.lemmas.Bool.{lt-ltb, le-ltb}
use Rattle.std.proofs.lemmas.Slice.Eq.{bytes_eq-Decides}
use Rattle.std.specs.List.{position, find}
use Rattle.std.specs.Option.{option_eq}
use Rattle.std.specs.Ordering.{int_eq}
use Rattle.std.specs.Str.{bytes_eq}
use Rattle.mib_model.specs.declared.rows.CafRow.{CafRow}
use Rattle.mib_model.specs.declared.rows.CapRow.{CapRow}
use Rattle.mib_model.specs.Curves.{is_real_format}
use Rattle.mib_model.specs.CurveFlaws.{is_bad_point, is_bad_x, is_same_x}
use Rattle.mib_model.specs.WholeNumbers.{whole_number}
use Rattle.row_flaws.specs.declared.points.PointKey.{PointKey}
use Rattle.row_flaws.specs.Indexes.{has_by, first_place, cut}
use Rattle.row_flaws.specs.Points.{point_eq, point_at, point_of, point_in, repeats, is_repeated_point}
use Rattle.row_flaws.proofs.AnyFacts.{any-agree}
use Rattle.row_flaws.proofs.LookupFacts.{found-any}
use Rattle.mib_index.proofs.PlaceFacts.{position-cons, below_one_more}

-- the first place among the first items
pub position-take : {X : Type 0} (p : X → Bool) (n : ℕ) (xs : List X) → position p (take n xs) ≡ cut n (position p xs)
position-take p zero xs = sym (none (position p xs)) where
  none : (o : Option ℕ) → cut 0 o ≡ None
  none None = refl
  none (Some i) = let e : nat_lt i 0 ≡ false = le-ltb i 0 (omega arith) in ap (λ b. cond b (Some i) None) e
position-take p (suc n) [] = refl
position-take p (suc n) (x ∷ xs) =
    position-cons p x (take n xs) ∙ (ap (λ o. cond (p x) (Some 0) (option_map (λ i. i + 1) o)) (position-take p n xs) ∙ (go (p x) (position p xs) ∙ ap (cut (suc n)) (sym (position-cons p x xs)))) where
      go : (b : Bool) (o : Option ℕ) → cond b (Some 0) (option_map (λ i. i + 1) (cut n o)) ≡ cut (suc n) (cond b (Some 0) (option_map (λ i. i + 1) o))
      go true o = let e : nat_lt 0 (suc n) ≡ true = lt-ltb 0 (suc n) (omega arith) in sym (ap (λ b. cond b (Some 0) None) e)
      go false None = refl
      go false (Some i) = put (nat_lt i n) ∙ ap (λ b. cond b (Some (i + 1)) None) (sym same) where
        put : (b : Bool) → option_map (λ k. k + 1) (cond b (Some i) None) ≡ cond b (Some (i + 1)) None
        put true = refl
        put false = refl

        same : nat_lt (i + 1) (suc n) ≡ nat_lt i n
        same = (let e : i + 1 ≡ 1 + i = omega arith in ap (λ k. nat_lt k (suc n)) e) ∙ below_one_more i n

-- the same point, by its row and by its key
module _ (cafs : List CafRow) (r o : CapRow) (caf : CafRow) (x : ℤ) where
  abbrev own_curve : List ℕ → Option CafRow
  own_curve name = find (λ (c : CafRow). bytes_eq c.numbr name) cafs

  at-same : (y : Option ℤ) → has_by point_eq (record { numbr = r.numbr; x = x }) (point_at o.numbr y) ≡ (bytes_eq o.numbr r.numbr && option_eq int_eq y (Some x))
  at-same None = none (bytes_eq o.numbr r.numbr) where
    none : (b : Bool) → false ≡ (b && false)
    none true = refl
    none false = refl
  at-same (Some y) = refl

  -- of another curve: no curve, or another name
  elsewhere : (c : Option CafRow) → bytes_eq o.numbr r.numbr ≡ false → has_by point_eq (record { numbr = r.numbr; x = x }) (point_of c o) ≡ false
  elsewhere None other = refl
  elsewhere (Some c) other = at-same (whole_number c.radix o.xvals) ∙ ap (λ b. b && option_eq int_eq (whole_number c.radix o.xvals) (Some x)) other

  same-point : own_curve r.numbr ≡ Some caf → (b : Bool) → bytes_eq o.numbr r.numbr ≡ b → has_by point_eq (record { numbr = r.numbr; x = x }) (point_in cafs o) ≡ is_same_x caf.radix x r o
  same-point curve true h =
      let name : o.numbr ≡ r.numbr = (bytes_eq-Decides o.numbr r.numbr).0 h in
      ap (λ c. has_by point_eq (record { numbr = r.numbr; x = x }) (point_of c o)) (ap own_curve name ∙ curve) ∙ at-same (whole_number caf.radix o.xvals)
  same-point curve false h =
      elsewhere (own_curve o.numbr) h ∙ sym (ap (λ b. b && option_eq int_eq (whole_number caf.radix o.xvals) (Some x)) h)

module _ (cafs : List CafRow) (caps : List CapRow) (number : ℕ) (r : CapRow) where
  abbrev noted : PointKey → Option ℕ
  noted q = first_place point_eq (point_in cafs) caps q

  bad-x : (caf : CafRow) → find (λ (c : CafRow). bytes_eq c.numbr r.numbr) cafs ≡ Some caf → (x : Option ℤ) → repeats noted number r.numbr x ≡ is_bad_x caf.radix (take (number - 1) caps) r x
  bad-x caf curve None = refl
  bad-x caf curve (Some x) =
      let q : PointKey = record { numbr = r.numbr; x = x } in
      let test : CapRow → Bool = λ o. has_by point_eq q (point_in cafs o) in
      ap is_some (sym (position-take test (number - 1) caps)) ∙ (found-any test (take (number - 1) caps) ∙
      any-agree test (is_same_x caf.radix x r) (λ o. same-point cafs r o caf x curve (bytes_eq o.numbr r.numbr) refl) (take (number - 1) caps))

  bad-point : (c : Option CafRow) → find (λ (k : CafRow). bytes_eq k.numbr r.numbr) cafs ≡ c → is_repeated_point noted number c r ≡ is_bad_point c (take (number - 1) caps) r
  bad-point None curve = refl
  bad-point (Some caf) curve = ap (λ b. not (is_real_format caf.rawfmt) && b) (bad-x caf curve (whole_number caf.radix r.xvals))

  pub point-bad : is_repeated_point noted number (find (λ (k : CafRow). bytes_eq k.numbr r.numbr) cafs) r ≡ is_bad_point (find (λ (k : CafRow). bytes_eq k.numbr r.numbr) cafs) (take (number - 1) caps) r
  point-bad = bad-point (find (λ (k : CafRow). bytes_eq k.numbr r.numbr) cafs) refl
