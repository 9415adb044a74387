-- Names of rows that differ.
use Rattle.std.proofs.Common.{◌≡◌, ◌∙◌, ℕ, ◌+◌, ◌<◌, Bool, true, false, List, [], ◌∷◌, ◌++◌, ◌||◌, length, get_or, take, drop, filter, map, refl, sym, ap}
use Rattle.std.proofs.lemmas.List.{take-append-drop}
use Rattle.std.proofs.lemmas.List.Elements.{filter-append, filter_more}
use Rattle.std.proofs.lemmas.List.Folds.{list_any-append}
use Rattle.std.specs.List.{list_any}
use Rattle.std.specs.Str.{bytes_eq}
use Rattle.param_changes.specs.Changed.{Notes, has_name, rows_named}

either-false : (a b : Bool) → (a || b) ≡ false → (a ≡ false) × (b ≡ false)
either-false true b none = absurd (cc none)
either-false false b none = (refl, none)

-- whether a name of some items is among names
pub any-images : {X Y : Type 0} (p : Y → Bool) (f : X → Y) (xs : List X) → list_any p (map f xs) ≡ list_any (λ x. p (f x)) xs
any-images p f [] = refl
any-images p f (x ∷ xs) = ap (λ b. p (f x) || b) (any-images p f xs)

-- a name that isn't among some and one more
not-pushed : (names : List (List ℕ)) (more name : List ℕ) → has_name (names ++ more ∷ []) name ≡ false → (has_name names name ≡ false) × (bytes_eq more name ≡ false)
not-pushed names more name none =
    let parts = either-false (has_name names name) (has_name (more ∷ []) name) (sym (list_any-append (λ n. bytes_eq n name) names (more ∷ [])) ∙ none) in
    (parts.0, (either-false (bytes_eq more name) false parts.1).0)

module _ {R : Type 0} (name_of : R → List ℕ) where
  -- what is noted of two parts is noted of the whole
  pub notes-append : (a b c : List (List ℕ)) (xs ys us vs : List R) → Notes name_of a b xs ys → Notes name_of b c us vs → Notes name_of a c (xs ++ us) (ys ++ vs)
  notes-append a b c xs ys us vs first second name none =
      let after = second name none in
      let before = first name after.0 in (
        before.0,
        filter-append (λ row. bytes_eq (name_of row) name) xs us
            ∙ (λ i. before.1 i ++ after.1 i) ∙ sym (filter-append (λ row. bytes_eq (name_of row) name) ys vs),
      )

  -- nothing is noted where nothing differs
  pub notes-same : (a : List (List ℕ)) (xs ys : List R) → xs ≡ ys → Notes name_of a a xs ys
  notes-same a xs ys is name none = (none, ap (λ (rows : List R). rows_named name_of name rows) is)

  unnamed : (x : R) (name : List ℕ) → bytes_eq (name_of x) name ≡ false → rows_named name_of name (x ∷ []) ≡ []
  unnamed x name other = rw other refl

  -- the name of a row that has nothing beside it
  pub notes-pushed : (a : List (List ℕ)) (x : R) → Notes name_of a (a ++ name_of x ∷ []) (x ∷ []) []
  notes-pushed a x name none = let parts = not-pushed a (name_of x) name none in (parts.0, unnamed x name parts.1)

  -- the names of two rows
  pub notes-both : (a : List (List ℕ)) (x y : R) → Notes name_of a ((a ++ name_of x ∷ []) ++ name_of y ∷ []) (x ∷ []) (y ∷ [])
  notes-both a x y name none =
      let second = not-pushed (a ++ name_of x ∷ []) (name_of y) name none in
      let first = not-pushed a (name_of x) name second.0 in
      (first.0, unnamed x name first.1 ∙ sym (unnamed y name second.1))

  -- the other way round
  pub notes-turned : (a b : List (List ℕ)) (xs ys : List R) → Notes name_of a b xs ys → Notes name_of a b ys xs
  notes-turned a b xs ys notes name none = let both = notes name none in (both.0, sym both.1)

  -- one row more
  pub notes-more : (a b c : List (List ℕ)) (xs ys : List R) (k : ℕ) (x y : R) → k < length xs → k < length ys → x ≡ get_or xs k x → y ≡ get_or ys k y
      → Notes name_of a b (take k xs) (take k ys) → Notes name_of b c (x ∷ []) (y ∷ []) → Notes name_of a c (take (k + 1) xs) (take (k + 1) ys)
  notes-more a b c xs ys k x y in_xs in_ys is_x is_y first second name none =
      let p : R → Bool = λ row. bytes_eq (name_of row) name in
      let after = second name none in
      let before = first name after.0 in (
        before.0,
        filter_more p xs k x in_xs ∙ ap (λ r. filter p (take k xs) ++ filter p (r ∷ [])) (sym is_x)
            ∙ (λ i. before.1 i ++ after.1 i)
            ∙ ap (λ r. filter p (take k ys) ++ filter p (r ∷ [])) is_y ∙ sym (filter_more p ys k y in_ys),
      )

  -- one row more that has nothing beside it
  pub notes-gone : (a b : List (List ℕ)) (xs : List R) (k : ℕ) (x : R) → k < length xs → x ≡ get_or xs k x → Notes name_of a b (take k xs) [] → Notes name_of a (b ++ name_of x ∷ []) (take (k + 1) xs) []
  notes-gone a b xs k x below is so_far name none =
      let p : R → Bool = λ row. bytes_eq (name_of row) name in
      let after = notes-pushed b x name none in
      let before = so_far name after.0 in
      (before.0, filter_more p xs k x below ∙ ap (λ r. filter p (take k xs) ++ filter p (r ∷ [])) (sym is) ∙ (λ i. before.1 i ++ after.1 i))

  -- what is noted of all, of two tables cut at one place
  pub notes-cut : (a b c d : List (List ℕ)) (xs ys : List R) (n : ℕ) → Notes name_of a b (take n xs) (take n ys) → Notes name_of b c (drop n xs) [] → Notes name_of c d (drop n ys) [] → Notes name_of a d xs ys
  notes-cut a b c d xs ys n pairs gone added name none =
      let last = added name none in
      let middle = gone name last.0 in
      let first = pairs name middle.0 in
      let p : R → Bool = λ row. bytes_eq (name_of row) name in
      let cut = λ (rows : List R). ap (filter p) (sym (take-append-drop n rows)) ∙ filter-append p (take n rows) (drop n rows) in
      (first.0, cut xs ∙ (λ i. first.1 i ++ middle.1 i) ∙ (λ i. rows_named name_of name (take n ys) ++ sym last.1 i) ∙ sym (cut ys))

  -- rows of a name in tables that are read by a call
  pub rows-read : (name : List ℕ) {a b xs ys : List R} → xs ≡ a → ys ≡ b → rows_named name_of name xs ≡ rows_named name_of name ys → rows_named name_of name a ≡ rows_named name_of name b
  rows-read name old new same = sym (ap (λ (rows : List R). rows_named name_of name rows) old) ∙ same ∙ ap (λ (rows : List R). rows_named name_of name rows) new
