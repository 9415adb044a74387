-- The rows of one table among rows of any table: put and taken out by their keys.
use Rattle.std.proofs.Common.{◌≡◌, ℕ, suc, ◌+◌, Bool, true, false, cond, not, ◌||◌, List, [], ◌∷◌, ◌++◌, map, set, take, drop, filter_map, Option, Some, None, is_some, refl, ap, sym, ◌∙◌}
use Rattle.std.specs.List.{position, position_from, prefix_len, list_any, remove}
use Rattle.std.proofs.lemmas.Iterator.Adapters.{position_from-zero}
use Rattle.std.proofs.lemmas.List.{map-set, map-append, length-map, take-map, drop-map}
use Rattle.mib_model.specs.declared.key.Key.{Key}
use Rattle.mib_model.specs.declared.rows.Row.{Row}
use Rattle.mib_model.specs.Drafts.{put_in, put_at, without_key, taken_at, is_held}
use Rattle.mib_model.specs.Keys.{has_key, key_in}

prefix_len-map : {A B : Type 0} (f : A → B) (p : B → Bool) (xs : List A) → prefix_len p (map f xs) ≡ prefix_len (λ x. p (f x)) xs
prefix_len-map f p [] = refl
prefix_len-map f p (x ∷ xs) = ap (λ (n : ℕ). cond (p (f x)) (1 + n) 0) (prefix_len-map f p xs)

-- the first that passes among what f gives of some
pub position-map : {A B : Type 0} (f : A → B) (p : B → Bool) (xs : List A) → position p (map f xs) ≡ position (λ x. p (f x)) xs
position-map f p xs = rw (prefix_len-map f (λ x. not (p x)) xs, length-map) refl

one_or_more : (b : Bool) (i : ℕ) (o : Option ℕ) (r : Bool) → is_some o ≡ r → is_some (cond b (Some i) o) ≡ (b || r)
one_or_more true i o r h = refl
one_or_more false i o r h = h

found_from : {A : Type 0} (p : A → Bool) (i : ℕ) (xs : List A) → is_some (position_from p i xs) ≡ list_any p xs
found_from p i [] = refl
found_from p i (x ∷ xs) = one_or_more (p x) i (position_from p (i + 1) xs) (list_any p xs) (found_from p (i + 1) xs)

module _ {R : Type 0} (one : R → Row) (own : Row → Option R) (gives : (r : R) → own (one r) ≡ Some r) where
  -- rows of a table are themselves again behind rows of any table
  pub back : (rows : List R) → filter_map own (map one rows) ≡ rows
  back [] = refl
  back (r ∷ rows) = rw (gives r) (ap (λ (xs : List R). r ∷ xs) (back rows))

  module _ (xs : List R) (key : Key) (place : Option ℕ) (at : place ≡ position (λ x. has_key key (one x)) xs) where
    place_in : place ≡ position (has_key key) (map one xs)
    place_in = at ∙ sym (position-map one (has_key key) xs)

    -- whether a row has a key, by the place that was found
    pub held_by : is_some place ≡ is_held key (map one xs)
    held_by = ap is_some place_in ∙ (ap is_some (position_from-zero (has_key key) (map one xs)) ∙ found_from (has_key key) 0 (map one xs))

  -- a row put at the place of its key, or behind all
  pub put_there : (xs : List R) (r : R) (i : ℕ) → Some i ≡ position (λ x. has_key (key_in (one r)) (one x)) xs → set xs i r ≡ filter_map own (put_in (one r) (map one xs))
  unfolding put_in
  put_there xs r i at =
      sym (back (set xs i r)) ∙ ap (filter_map own) (map-set one xs i r ∙ ap (put_at (one r) (map one xs)) (place_in xs (key_in (one r)) (Some i) at))

  pub put_behind : (xs : List R) (r : R) → None ≡ position (λ x. has_key (key_in (one r)) (one x)) xs → xs ++ r ∷ [] ≡ filter_map own (put_in (one r) (map one xs))
  unfolding put_in
  put_behind xs r at =
      sym (back (xs ++ r ∷ [])) ∙ ap (filter_map own) (map-append one xs (r ∷ []) ∙ ap (put_at (one r) (map one xs)) (place_in xs (key_in (one r)) None at))

  -- the first row with a key taken out
  pub taken_there : (xs : List R) (key : Key) (i : ℕ) → Some i ≡ position (λ x. has_key key (one x)) xs → remove xs i ≡ filter_map own (without_key key (map one xs))
  unfolding without_key
  taken_there xs key i at =
      let e : map one (remove xs i) ≡ remove (map one xs) i = map-append one (take i xs) (drop (suc i) xs) ∙ rw (take-map one i xs, drop-map one (suc i) xs) refl in
      sym (back (remove xs i)) ∙ ap (filter_map own) (e ∙ ap (taken_at (map one xs)) (place_in xs key (Some i) at))
