-- Texts cut at an octet, and words.
use Rattle.std.proofs.Common.{◌≡◌, ◌∙◌, ℕ, ◌+◌, ◌<◌, ◌≤◌, Bool, false, ltb, List, [], ◌∷◌, length, take, drop, Some, None, refl, ap, inl, inr, arith}
use Rattle.std.proofs.lemmas.Bool.{cases_Bool}
use Rattle.std.proofs.lemmas.Bool.Decides.{nat_tests}
use Rattle.std.proofs.lemmas.List.Splits.{length-slice_split, slice_split-cons_no, slice_split_first}
use Rattle.std.specs.List.{list_any, position, position_or_len, slice_split, before_first, after_first}
use Rattle.dec_num.proofs.DigitFacts.{list_any-place, not_found}
use Rattle.run_model.specs.DeskLines.{words_of, is_blank}
use Rattle.desk_lines.specs.Requests.{cut}

pub cut-none : (is : ℕ → Bool) (text : List ℕ) → None ≡ position is text → None ≡ cut is text
cut-none is text none = rw (not_found is text none) refl

pub cut-some : (is : ℕ → Bool) (text : List ℕ) (place : ℕ) → Some place ≡ position is text → Some (take place text, drop (place + 1) text) ≡ cut is text
cut-some is text place at = elim (cases_Bool (ltb (position_or_len is text) (length text))) [
  | inl inside ↦
      let same : place ≡ position_or_len is text = cc (rw inside at at) in
      rw (list_any-place is text ∙ inside, same) refl
  | inr outside ↦ cc (rw outside at at)
]

split-none : (is : ℕ → Bool) (text : List ℕ) → list_any is text ≡ false → slice_split is text ≡ text ∷ []
split-none is [] none = refl
split-none is (c ∷ cs) none = elim (cases_Bool (is c)) [
  | inl is_one ↦ cc (rw is_one at none)
  | inr is_none ↦ slice_split-cons_no is c cs is_none ∙ rw (split-none is cs (rw is_none at none)) refl
]

-- a text without a space is one word
pub words-one : (text : List ℕ) → None ≡ cut is_blank text → words_of text ≡ text ∷ []
words-one text none = elim (cases_Bool (list_any is_blank text)) [
  | inl any ↦ cc (rw any at none)
  | inr not ↦ split-none is_blank text not
]

pub same_item : {A : Type 0} (x y : A) → Some x ≡ Some y → x ≡ y
same_item x y same = cc same

-- another is a word and then those behind its first space
pub words-more : (text word rest : List ℕ) → Some (word, rest) ≡ cut is_blank text → words_of text ≡ word ∷ words_of rest
words-more text word rest some = elim (cases_Bool (list_any is_blank text)) [
  | inl any ↦
      let inside : position_or_len is_blank text < length text = grind (arith, nat_tests, list_any-place is_blank text, any) in
      let first = slice_split_first is_blank text 0 inside in
      let parts = same_item (word, rest) (before_first is_blank text, after_first is_blank text) (rw any at some) in
      first ∙ rw (ap (λ p. p.0) parts, ap (λ p. p.1) parts) refl
  | inr not ↦ cc (rw not at some)
]

pub words-some : (text : List ℕ) → 1 ≤ length (words_of text)
words-some text = omega (arith, length-slice_split is_blank text)
