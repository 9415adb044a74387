-- What the words of a line ask for.
use Rattle.std.proofs.Common.{◌≡◌, ℕ, ◌≤◌, false, List, [], ◌∷◌, length, codes, Option, Some, None, option_map, option_and_then, refl, sym, ap, inl, inr, arith, if◌then◌else◌}
use Rattle.std.proofs.lemmas.Bool.{cases_Bool}
use Rattle.std.specs.List.{list_any, before_first, after_first}
use Rattle.std.specs.Str.{bytes_eq}
use Rattle.mib_model.specs.declared.kind.Kind.{Kind}
use Rattle.mib_model.specs.Lines.{is_tab}
use Rattle.run_model.specs.DeskLines as Spec
use Rattle.mib_model.specs.Digits.{natural_in}
use Rattle.mib_model.specs.Kinds.{kind_named}
use Rattle.desk_lines.specs.Requests.{cut, from_in, only}
use Rattle.desk_lines.proofs.CutFacts.{same_item, words-some, words-one, words-more}

-- ---- words behind a first one

only_more : (word : List ℕ) (words : List (List ℕ)) → 1 ≤ length words → only (word ∷ words) ≡ None
only_more word [] some = absurd (omega (arith, some))
only_more word (w ∷ ws) some = refl

without : {A B : Type 0} (o : Option A) → option_and_then {T = A} {U = B} (λ a. None) o ≡ None
without None = refl
without (Some a) = refl

use_behind : (word : List ℕ) (words : List (List ℕ)) → 1 ≤ length words
    → Spec.use_request (word ∷ words) ≡ option_and_then (λ e. option_map (Spec.UseFrom e) (from_in words)) (Spec.edition_in word)
use_behind word [] some = absurd (omega (arith, some))
use_behind word (w ∷ []) some = elim (cases_Bool (bytes_eq w (codes "from"))) [
  | inl is ↦ rw is (sym (without (Spec.edition_in word)))
  | inr not ↦ rw not (sym (without (Spec.edition_in word)))
]
use_behind word (w ∷ number ∷ []) some = elim (cases_Bool (bytes_eq w (codes "from"))) [
  | inl is ↦ rw is refl
  | inr not ↦ rw not (sym (without (Spec.edition_in word)))
]
use_behind word (w ∷ number ∷ v ∷ vs) some = elim (cases_Bool (bytes_eq w (codes "from"))) [
  | inl is ↦ rw is (sym (without (Spec.edition_in word)))
  | inr not ↦ rw not (sym (without (Spec.edition_in word)))
]

word_behind : (word : List ℕ) (words : List (List ℕ)) → 1 ≤ length words
    → Spec.word_request false (word ∷ words) ≡ (if bytes_eq word (codes "use") then Spec.use_request words else None)
word_behind word [] some = absurd (omega (arith, some))
word_behind word (w ∷ ws) some = refl

-- ---- a line that is cut at its first space, or has none

pub only_cut : (text word rest : List ℕ) → Some (word, rest) ≡ cut Spec.is_blank text → only (Spec.words_of text) ≡ None
only_cut text word rest at = rw (words-more text word rest at) (only_more word (Spec.words_of rest) (words-some rest))

pub only_whole : (text : List ℕ) → None ≡ cut Spec.is_blank text → only (Spec.words_of text) ≡ Some text
only_whole text none = rw (words-one text none) refl

pub from_cut : (text word rest : List ℕ) → Some (word, rest) ≡ cut Spec.is_blank text
    → from_in (Spec.words_of text) ≡ (if bytes_eq word (codes "from") then option_and_then natural_in (only (Spec.words_of rest)) else None)
from_cut text word rest at = rw (words-more text word rest at) refl

pub from_whole : (text : List ℕ) → None ≡ cut Spec.is_blank text → from_in (Spec.words_of text) ≡ None
from_whole text none = rw (words-one text none) (elim (cases_Bool (bytes_eq text (codes "from"))) [ inl is ↦ rw is refl | inr not ↦ rw not refl ])

pub use_cut : (text word rest : List ℕ) → Some (word, rest) ≡ cut Spec.is_blank text
    → Spec.use_request (Spec.words_of text) ≡ option_and_then (λ e. option_map (Spec.UseFrom e) (from_in (Spec.words_of rest))) (Spec.edition_in word)
use_cut text word rest at = rw (words-more text word rest at) (use_behind word (Spec.words_of rest) (words-some rest))

pub use_whole : (text : List ℕ) → None ≡ cut Spec.is_blank text → Spec.use_request (Spec.words_of text) ≡ option_map Spec.Use (Spec.edition_in text)
use_whole text none = rw (words-one text none) refl

pub word_cut : (text word rest : List ℕ) → Some (word, rest) ≡ cut Spec.is_blank text
    → Spec.word_request false (Spec.words_of text) ≡ (if bytes_eq word (codes "use") then Spec.use_request (Spec.words_of rest) else None)
word_cut text word rest at = rw (words-more text word rest at) (word_behind word (Spec.words_of rest) (words-some rest))

pub word_whole : (text : List ℕ) → None ≡ cut Spec.is_blank text → Spec.word_request false (Spec.words_of text) ≡ Spec.word_request false (text ∷ [])
word_whole text none = ap (Spec.word_request false) (words-one text none)

-- ---- tables

pub table_cut : (make : Kind → List ℕ → Spec.Request) (rest word text : List ℕ) → Some (word, text) ≡ cut is_tab rest
    → Spec.table_request make rest ≡ (if Spec.is_word word then Spec.on_table make text (kind_named word) else Spec.BadLine)
table_cut make rest word text at = elim (cases_Bool (list_any is_tab rest)) [
  | inl any ↦
      let parts = same_item (word, text) (before_first is_tab rest, after_first is_tab rest) (rw any at at) in
      rw (any, ap (λ p. p.0) parts, ap (λ p. p.1) parts) refl
  | inr not ↦ cc (rw not at at)
]

pub table_whole : (make : Kind → List ℕ → Spec.Request) (rest : List ℕ) → None ≡ cut is_tab rest → Spec.table_request make rest ≡ Spec.BadLine
table_whole make rest none = elim (cases_Bool (list_any is_tab rest)) [
  | inl any ↦ cc (rw any at none)
  | inr not ↦ rw not refl
]
