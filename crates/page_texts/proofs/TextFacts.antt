-- A text that is written piece by piece.
use Rattle.std.proofs.Common.{◌≡◌, ◌∙◌, ℕ, ◌+◌, ◌<◌, ◌≤◌, List, [], ◌++◌, drop, take, get_or, length, Option, Result, Ok, Err, OnErr, OnOk, refl, sym, ap, subst, append_assoc, append-nil, take-append-drop}
use Rattle.std.specs.List.{flat_map, zip}
use Rattle.std.specs.Io.KnownBytes.{Appends}
use Rattle.std.proofs.Math.Seq.{take-append_seam}
use Rattle.std.proofs.lemmas.List.{drop_all, drop_more}
use Rattle.std.proofs.KnownBytes.{Appends-trans}
use Rattle.display_pages.specs.declared.page.Cell.{Cell}
use Rattle.display_pages.specs.Pages.{cell_text}
use Rattle.tm_io.specs.Octets.{AppendsPrefix}
use Rattle.page_texts.specs.Written.{Passes}

-- a text that was written whole is a first part of a longer one
pub front : (text more : List ℕ) (old new : Option (List ℕ)) → Appends old new text → AppendsPrefix old new (text ++ more)
front text more old new wrote = (length text, subst (Appends old new) (sym (take-append_seam text more)) wrote)

pub whole : (text : List ℕ) (old new : Option (List ℕ)) → Appends old new text → AppendsPrefix old new text
whole text old new wrote = subst (AppendsPrefix old new) (append-nil text) (front text [] old new wrote)

-- a first part of what follows a text that was written is one of both, and of more
part-behind : (sent piece more : List ℕ) (old mid new : Option (List ℕ)) → Appends old mid sent → AppendsPrefix mid new piece → AppendsPrefix old new (sent ++ (piece ++ more))
part-behind sent piece more old mid new went (count, wrote) =
    subst (AppendsPrefix old new)
    (append_assoc sent (take count piece) (drop count piece ++ more)
    ∙ ap (λ (l : List ℕ). sent ++ l) (sym (append_assoc (take count piece) (drop count piece) more) ∙ ap (λ (l : List ℕ). l ++ more) (take-append-drop count piece)))
    (front (sent ++ take count piece) (drop count piece ++ more) old new (Appends-trans old mid new sent (take count piece) went wrote))

-- what was written of a line and of a text that goes on behind it
pub part-of : (text line more : List ℕ) (old mid new : Option (List ℕ)) → Passes old mid text (line ++ more) → AppendsPrefix mid new line → AppendsPrefix old new text
part-of text line more old mid new (sent, went, is) part = subst (AppendsPrefix old new) (sym is) (part-behind sent line more old mid new went part)

whole-of : (text line more : List ℕ) (old mid new : Option (List ℕ)) → more ≡ [] → Passes old mid text (line ++ more) → Appends mid new line → Appends old new text
whole-of text line more old mid new none (sent, went, is) wrote =
    subst (Appends old new) (sym (is ∙ ap (λ (l : List ℕ). sent ++ l) (ap (λ (l : List ℕ). line ++ l) none ∙ append-nil line))) (Appends-trans old mid new sent line went wrote)

pub on-err : {T E : Type 0} (r : Result T E) (P : Type 0) → P → OnErr r P
on-err (Ok done) P p = tt
on-err (Err failed) P p = p

-- some of a line was written, and a piece of what is behind it was put to the rest
pub goes-on : (text line left piece more later new_line : List ℕ) (old mid new : Option (List ℕ)) → more ≡ piece ++ later → new_line ≡ left ++ piece
    → Passes old mid text (line ++ more) → Passes mid new line left → Passes old new text (new_line ++ later)
goes-on text line left piece more later new_line old mid new parts longer (sent, went, is) (again, gone, cut) = (
  sent ++ again,
  Appends-trans old mid new sent again went gone,
  is ∙ ap (λ (l : List ℕ). sent ++ l)
      (ap (λ (l : List ℕ). l ++ more) cut ∙ append_assoc again left more
      ∙ ap (λ (l : List ℕ). again ++ l) (ap (λ (l : List ℕ). left ++ l) parts ∙ sym (append_assoc left piece later) ∙ ap (λ (l : List ℕ). l ++ later) (sym longer)))
      ∙ sym (append_assoc sent again (new_line ++ later)),
)

-- the lines of the names from one on
pub cells-next : (names : List (List ℕ)) (cells : List Cell) (at : ℕ) (d : List ℕ) (e : Cell) → at < length names → at < length cells
    → flat_map cell_text (zip (drop at names) (drop at cells))
    ≡ cell_text (get_or names at d, get_or cells at e) ++ flat_map cell_text (zip (drop (at + 1) names) (drop (at + 1) cells))
cells-next names cells at d e inside within = rw (drop_more names at d inside, drop_more cells at e within) refl

pub cells-over : (names : List (List ℕ)) (cells : List Cell) (at : ℕ) → length names ≤ at → flat_map cell_text (zip (drop at names) (drop at cells)) ≡ []
cells-over names cells at out = rw (drop_all at names out) refl

-- the last line was written whole or in part
pub wrote-all : {T E : Type 0} (r : Result T E) (text line more : List ℕ) (old mid new : Option (List ℕ)) → more ≡ [] → Passes old mid text (line ++ more)
    → OnOk r (Appends mid new line) → OnOk r (Appends old new text)
wrote-all (Ok done) text line more old mid new none went wrote = whole-of text line more old mid new none went wrote
wrote-all (Err failed) text line more old mid new none went wrote = tt

pub wrote-part : {T E : Type 0} (r : Result T E) (text line more : List ℕ) (old mid new : Option (List ℕ)) → Passes old mid text (line ++ more)
    → OnErr r (AppendsPrefix mid new line) → OnErr r (AppendsPrefix old new text)
wrote-part (Ok done) text line more old mid new went wrote = tt
wrote-part (Err failed) text line more old mid new went wrote = part-of text line more old mid new went wrote
