-- What is carried over, name by name.
use Rattle.std.proofs.Common.{◌≡◌, ◌∙◌, ◌⊎◌, ℕ, ◌+◌, ◌<◌, Bool, true, false, ◌&&◌, ◌||◌, cond, List, [], ◌∷◌, ◌++◌, Option, Some, None, find, get_or, inl, inr, length, map, refl, subst, sym, ap, take}
use Rattle.std.proofs.lemmas.List.{take_more}
use Rattle.std.specs.Cmp.Lexicographic.{bytes_decides, pointwise}
use Rattle.std.specs.List.{list_any}
use Rattle.std.specs.Str.{bytes_eq}
use Rattle.mib_model.specs.declared.database.Database.{Database}
use Rattle.mib_model.specs.declared.rows.OcpRow.{OcpRow}
use Rattle.mib_model.specs.declared.rows.PcfRow.{PcfRow}
use Rattle.mib_model.specs.Carry.{carry, is_carried, stays}
use Rattle.mib_model.specs.Kept.{Memory, empty_memory, keeping, nothing_kept}
use Rattle.mib_model.specs.Parameters.{parameter}
use Rattle.mib_model.specs.SameRows.{same_ocp}

pub limits-same : (same : OcpRow → OcpRow → Bool) (xs ys : List OcpRow) → ((x y : OcpRow) → same x y ≡ same_ocp x y) → pointwise same xs ys ≡ pointwise same_ocp xs ys
limits-same same xs ys each = λ i. pointwise (λ x y. each x y i) xs ys

-- whether a name is among names
abbrev pub is_among : List (List ℕ) → List ℕ → Bool
is_among names name = list_any (λ other. bytes_eq name other) names

-- a memory has what is carried of names, and nothing of others
abbrev pub Carries : Memory → Database → Database → List (List ℕ) → Memory → Type 0
Carries memory old new names carried =
    (name : List ℕ) → (carried name ≡ carry memory old new name) ⊎ ((carried name ≡ nothing_kept) × (is_among names name ≡ false))

any-last : (test : List ℕ → Bool) (xs : List (List ℕ)) (x : List ℕ) → list_any test xs ≡ false → test x ≡ false → list_any test (xs ++ x ∷ []) ≡ false
any-last test [] x e f = rw f refl
any-last test (y ∷ ys) x e f = go (test y) refl e (any-last test ys x) where
  go : (b : Bool) → test y ≡ b → (b || list_any test ys) ≡ false → (list_any test ys ≡ false → test x ≡ false → list_any test (ys ++ x ∷ []) ≡ false)
      → list_any test (y ∷ ys ++ x ∷ []) ≡ false
  go true is e more = absurd (cc e)
  go false is e more = rw is (more e f)

-- one name more
pub carries-more : (memory : Memory) (old new : Database) (names : List (List ℕ)) (i : ℕ) (name : List ℕ) (before after : Memory) → i < length names → name ≡ get_or names i name
    → after ≡ keeping before name (carry memory old new name) → Carries memory old new (take i names) before → Carries memory old new (take (i + 1) names) after
carries-more memory old new names i name before after below is keeps carries other = go (bytes_eq other name) refl where
  at : after other ≡ keeping before name (carry memory old new name) other
  at = ap (λ (m : Memory). m other) keeps

  front : take (i + 1) names ≡ take i names ++ name ∷ []
  front = take_more names i name below ∙ ap (λ (n : List ℕ). take i names ++ n ∷ []) (sym is)

  go : (b : Bool) → bytes_eq other name ≡ b → (after other ≡ carry memory old new other) ⊎ ((after other ≡ nothing_kept) × (is_among (take (i + 1) names) other ≡ false))
  go true e = inl (at ∙ (ap (λ (b : Bool). cond b (carry memory old new name) (before other)) e ∙ ap (carry memory old new) (sym ((bytes_decides other name).0 e))))
  go false e =
      let same : after other ≡ before other = at ∙ ap (λ (b : Bool). cond b (carry memory old new name) (before other)) e in
      elim (carries other) [
        | inl is ↦ inl (same ∙ is)
        | inr none ↦ inr (same ∙ none.0, ap (λ (ns : List (List ℕ)). is_among ns other) front ∙ any-last (λ n. bytes_eq other n) (take i names) name none.1 e)
      ]

-- a name of no parameter has nothing
no-parameter : (rows : List PcfRow) (name : List ℕ) → is_among (map (λ row. row.name) rows) name ≡ false → parameter rows name ≡ None
no-parameter [] name e = refl
no-parameter (row ∷ rows) name e = go (bytes_eq name row.name) refl e (no-parameter rows name) where
  turned : bytes_eq name row.name ≡ false → bytes_eq row.name name ≡ false
  turned f = back (bytes_eq row.name name) refl where
    back : (b : Bool) → bytes_eq row.name name ≡ b → bytes_eq row.name name ≡ false
    back true g = absurd (let same = (bytes_decides row.name name).0 g in let own = (bytes_decides name row.name).1 (sym same) in cc)
    back false g = g

  go : (b : Bool) → bytes_eq name row.name ≡ b → (b || is_among (map (λ row. row.name) rows) name) ≡ false → (is_among (map (λ row. row.name) rows) name ≡ false → parameter rows name ≡ None)
      → parameter (row ∷ rows) name ≡ None
  go true f e later = absurd (cc e)
  go false f e later = rw (turned f) (later e)

no-stay : (o : Option PcfRow) → stays o None ≡ false
no-stay None = refl
no-stay (Some row) = refl

nothing-carried : (memory : Memory) (old new : Database) (name : List ℕ) → parameter new.pcf name ≡ None → carry memory old new name ≡ nothing_kept
unfolding carry is_carried
nothing-carried memory old new name none = rw (none, no-stay (parameter old.pcf name)) refl

-- all names
pub carries-all : (memory : Memory) (old new : Database) (names : List (List ℕ)) (carried : Memory) → names ≡ map (λ row. row.name) new.pcf → Carries memory old new names carried
    → carried ≡ carry memory old new
carries-all memory old new names carried are carries = λ i name. at name i where
  at : (name : List ℕ) → carried name ≡ carry memory old new name
  at name = elim (carries name) [
    | inl is ↦ is
    | inr none ↦ none.0 ∙ sym (nothing-carried memory old new name (no-parameter new.pcf name (ap (λ (ns : List (List ℕ)). is_among ns name) (sym are) ∙ none.1)))
  ]

-- no name yet
pub carries-none : (memory : Memory) (old new : Database) (carried : Memory) → carried ≡ empty_memory → Carries memory old new [] carried
carries-none memory old new carried none name = inr (ap (λ (m : Memory). m name) none, refl)
