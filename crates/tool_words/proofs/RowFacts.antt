-- The values of rows, and how they grow.
use Rattle.std.proofs.Common.{◌≡◌, ℕ, Bool, true, false, cond, List, [], ◌∷◌, ◌++◌, refl, ap, sym, ◌∙◌, Some, None}
use Rattle.std.specs.Prelude.{unwrap_or, option_map, find}
use Rattle.std.specs.Str.{bytes_eq}
use Rattle.std.proofs.lemmas.Slice.Eq.{bytes_eq-Decides}
use Rattle.clap.specs.Walk.{Row, more_values, stronger, with_values}
use Rattle.clap.specs.declared.builder.value_parser.Reading.{Reading}
use Rattle.clap.specs.declared.parser.matches.ValueSource.TheVariants.{CommandLine}
use Rattle.tool_words.specs.Line.{values_of}

-- a row with a value more
abbrev grown : List ℕ → Row → Row
grown v r = record r { values = r.values ++ v ∷ []; source = Some (stronger r.source CommandLine) }

-- a row, or else what others give
abbrev first_values : Bool → Row → List Row → List ℕ → List (List ℕ)
first_values b r rs id = unwrap_or (option_map (λ (r : Row). r.values) (cond b (Some r) (find (λ (r : Row). bytes_eq r.id id) rs))) []

more-step : (id : List ℕ) (how : Reading) (v : List ℕ) (r : Row) (rs : List Row) (b : Bool) → bytes_eq r.id id ≡ b
    → values_of id (with_values id how CommandLine (v ∷ []) rs) ≡ values_of id rs ++ v ∷ []
    → values_of id (cond b (more_values CommandLine (v ∷ []) r ++ rs) (r ∷ with_values id how CommandLine (v ∷ []) rs)) ≡ values_of id (r ∷ rs) ++ v ∷ []
more-step id how v r rs true e next = ap (λ b. first_values b (grown v r) rs id) e ∙ sym (ap (λ b. first_values b r rs id ++ v ∷ []) e)
more-step id how v r rs false e next =
    ap (λ b. first_values b r (with_values id how CommandLine (v ∷ []) rs) id) e ∙ (next ∙ sym (ap (λ b. first_values b r rs id ++ v ∷ []) e))

-- one value more
pub values-more : (id : List ℕ) (how : Reading) (v : List ℕ) (rows : List Row) → bytes_eq id id ≡ true → values_of id (with_values id how CommandLine (v ∷ []) rows) ≡ values_of id rows ++ v ∷ []
values-more id how v [] e = ap (λ b. first_values b (record { id = id; values = v ∷ []; count = None; source = Some CommandLine; reading = how }) [] id) e
values-more id how v (r ∷ rs) e = more-step id how v r rs (bytes_eq r.id id) refl (values-more id how v rs e)

other-step : (id other : List ℕ) (how : Reading) (v : List ℕ) (r : Row) (rs : List Row) (b : Bool) → bytes_eq r.id id ≡ b → bytes_eq id other ≡ false
    → values_of other (with_values id how CommandLine (v ∷ []) rs) ≡ values_of other rs
    → values_of other (cond b (more_values CommandLine (v ∷ []) r ++ rs) (r ∷ with_values id how CommandLine (v ∷ []) rs)) ≡ values_of other (r ∷ rs)
other-step id other how v r rs true e ne next =
    let apart : bytes_eq r.id other ≡ false = ap (λ t. bytes_eq t other) ((bytes_eq-Decides r.id id).0 e) ∙ ne in
    ap (λ b. first_values b (grown v r) rs other) apart ∙ sym (ap (λ b. first_values b r rs other) apart)
other-step id other how v r rs false e ne next = ap (λ vs. vs) (go (bytes_eq r.id other)) where
  go : (b : Bool) → first_values b r (with_values id how CommandLine (v ∷ []) rs) other ≡ first_values b r rs other
  go true = refl
  go false = next

-- the values of another id stay
pub values-other : (id other : List ℕ) (how : Reading) (v : List ℕ) (rows : List Row) → bytes_eq id other ≡ false → values_of other (with_values id how CommandLine (v ∷ []) rows) ≡ values_of other rows
values-other id other how v [] ne = ap (λ b. first_values b (record { id = id; values = v ∷ []; count = None; source = Some CommandLine; reading = how }) [] other) ne
values-other id other how v (r ∷ rs) ne = other-step id other how v r rs (bytes_eq r.id id) refl ne (values-other id other how v rs ne)

-- an argument with no default changes no row
pub no-default : {X : Type 0} (b : Bool) (x : X) → cond b x x ≡ x
no-default true x = refl
no-default false x = refl
