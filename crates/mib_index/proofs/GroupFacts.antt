-- The rows of a key, among rows that grow.
use Rattle.std.proofs.Common.{◌≡◌, ℕ, ◌+◌, ◌<◌, Bool, true, false, List, [], ◌∷◌, ◌++◌, Option, Some, None, unwrap_or, Result, Ok, Err, OnOk, take, length, get_or, filter, if◌then◌else◌, refl, ap, ◌∙◌, sym}
use Rattle.std.specs.Cmp.{IsEquivalence}
use Rattle.std.specs.HashMap.{get, HashMap}
use Rattle.std.specs.Map.{lookup}
use Rattle.mib_index.specs.Groups.{rows_of}
use Rattle.std.proofs.lemmas.List.{take_more, append-nil}
use Rattle.std.proofs.lemmas.List.Elements.{filter-append}

-- a row behind others, if it passes
one-more : {R : Type 0} (passes : Bool) (rows : List R) (row : R) → rows ++ (if passes then row ∷ [] else []) ≡ (if passes then rows ++ row ∷ [] else rows)
one-more true rows row = refl
one-more false rows row = append-nil rows

-- one row more
pub filter-more : {R : Type 0} (p : R → Bool) (rows : List R) (i : ℕ) (row : R) → i < length rows → row ≡ get_or rows i row
    → filter p (take (i + 1) rows) ≡ (if p row then filter p (take i rows) ++ row ∷ [] else filter p (take i rows))
filter-more p rows i row below is =
    ap (filter p) (take_more rows i row below) ∙ (filter-append p (take i rows) (get_or rows i row ∷ []) ∙ (ap (λ r. filter p (take i rows) ++ filter p (r ∷ [])) (sym is) ∙ one-more (p row) (filter p (take i rows)) row))

-- what stands there, or no rows
rows-there : {R : Type 0} (there : Option (List R)) → unwrap_or there [] ≡ rows_of there
rows-there None = refl
rows-there (Some rows) = refl

-- a row behind those of a key
pub one-added : {K R S : Type 0} (eq : K → K → Bool) → IsEquivalence eq → (old new : HashMap K (List R) S) (key : K) (group : List R) (row : R)
    → ((q : K) → get eq new q ≡ (if eq key q then Some group else get eq old q)) → group ≡ unwrap_or (get eq old key) [] ++ row ∷ []
    → (q : K) → rows_of (get eq new q) ≡ (if eq key q then rows_of (get eq old q) ++ row ∷ [] else rows_of (get eq old q))
one-added eq laws old new key group row puts is q = ap rows_of (puts q) ∙ go (eq key q) refl where
  go : (b : Bool) → eq key q ≡ b → rows_of (if b then Some group else get eq old q) ≡ (if b then rows_of (get eq old q) ++ row ∷ [] else rows_of (get eq old q))
  go true e = is ∙ (ap (λ there. unwrap_or there [] ++ row ∷ []) (λ i. lookup (λ k. laws.congr key q k e i) old.entries) ∙ ap (λ rows. rows ++ row ∷ []) (rows-there (get eq old q)))
  go false e = refl

-- what follows of an answer
pub when-ok : {A E : Type 0} (r : Result A E) (P Q : Type 0) → (P → Q) → OnOk r P → OnOk r Q
when-ok (Ok x) P Q f p = f p
when-ok (Err e) P Q f p = p
