-- The lines of pieces, one after the other.
use Rattle.std.proofs.Common.{◌≡◌, ◌∙◌, ℕ, ◌+◌, ◌<◌, ◌≤◌, Bool, true, Bor, List, [], ◌∷◌, ◌++◌, cond, drop, get_or, length, map, Option, Some, None, Result, Ok, Err, IfErr, IfOk, refl, sym, ap, subst, append_assoc}
use Rattle.std.proofs.lemmas.Bool.{le-ltb, lt-ltb}
use Rattle.std.specs.List.{slice_split}
use Rattle.std.specs.Prelude.{not, ◌==◌}
use Rattle.std.specs.Str.Lines.{strip_carriage_return}
use Rattle.std.proofs.lemmas.List.{drop_all, drop_more}
use Rattle.std.proofs.lemmas.List.Elements.{filter-append}
use Rattle.mib_model.specs.Lines.{is_feed, lines, lines_of}
use Rattle.page_texts.specs.PageFiles.{Refuses, bad_line, first_bad, may_follow}
use Rattle.page_texts.specs.declared.page_file.PageFileFault.{PageFileFault}
use Rattle.page_texts.specs.declared.page_file.TheConstants.{PAGE_FILE_MOST}

-- what stands for the piece past the last one
abbrev pub nothing : Bor (List ℕ)
nothing = record { ref_ptr = (0, 0); now = [] }

-- the lines of pieces are those of the first and those of the others
lines-parts : (piece : List ℕ) (pieces : List (List ℕ)) → lines_of (piece ∷ pieces) ≡ lines_of (piece ∷ []) ++ lines_of pieces
unfolding lines_of
lines-parts piece pieces = filter-append (λ line. not (length line == 0)) (strip_carriage_return piece ∷ []) (map strip_carriage_return pieces)

-- a line that may stand is passed
passed : (before : List (List ℕ)) (line : List ℕ) (rest : List (List ℕ)) → may_follow before line ≡ true
    → first_bad before (line ∷ rest) ≡ first_bad (before ++ line ∷ []) rest
passed before line rest fits = ap (λ (b : Bool). cond b (first_bad (before ++ line ∷ []) rest) (Some (length before + 1))) fits

module _ (pieces : List (Bor (List ℕ))) (at : ℕ) (d : Bor (List ℕ)) (inside : at < length pieces) where
  -- the lines of the pieces from one on
  pub left : (lines : List (List ℕ)) → lines_of ((get_or pieces at d).now ∷ []) ≡ lines
      → lines_of (map (λ (piece : Bor (List ℕ)). piece.now) (drop at pieces)) ≡ lines ++ lines_of (map (λ (piece : Bor (List ℕ)). piece.now) (drop (at + 1) pieces))
  left lines are =
      ap (λ (l : List (Bor (List ℕ))). lines_of (map (λ (piece : Bor (List ℕ)). piece.now) l)) (drop_more pieces at d inside)
      ∙ lines-parts (get_or pieces at d).now (map (λ (piece : Bor (List ℕ)). piece.now) (drop (at + 1) pieces))
      ∙ ap (λ (l : List (List ℕ)). l ++ lines_of (map (λ (piece : Bor (List ℕ)). piece.now) (drop (at + 1) pieces))) are

-- past the last piece there is no line
pub none-left : (pieces : List (Bor (List ℕ))) (at : ℕ) → length pieces ≤ at → lines_of (map (λ (piece : Bor (List ℕ)). piece.now) (drop at pieces)) ≡ []
unfolding lines_of
none-left pieces at out = rw (drop_all at pieces out) refl

-- a line is put behind the others
pub taken : (all before rest later : List (List ℕ)) (line : List ℕ) → rest ≡ line ∷ later → all ≡ before ++ rest → all ≡ (before ++ line ∷ []) ++ later
taken all before rest later line is whole = whole ∙ ap (λ (l : List (List ℕ)). before ++ l) is ∙ sym (append_assoc before (line ∷ []) later)

-- and may stand there
pub judged : (judge : Option ℕ) (before rest later : List (List ℕ)) (line : List ℕ) → rest ≡ line ∷ later → may_follow before line ≡ true → judge ≡ first_bad before rest
    → judge ≡ first_bad (before ++ line ∷ []) later
judged judge before rest later line is fits found = found ∙ ap (first_bad before) is ∙ passed before line later fits

-- a text that is too long is refused for no line
pub too-long : (text : List ℕ) → PAGE_FILE_MOST < length text → bad_line text ≡ Some 0
unfolding bad_line
too-long text long = ap (λ (b : Bool). cond b (Some 0) (first_bad [] (lines text))) (lt-ltb PAGE_FILE_MOST (length text) long)

-- and each other by its lines
pub by-lines : (text : List ℕ) → length text ≤ PAGE_FILE_MOST → bad_line text ≡ first_bad [] (lines text)
unfolding bad_line
by-lines text short = ap (λ (b : Bool). cond b (Some 0) (first_bad [] (lines text))) (le-ltb PAGE_FILE_MOST (length text) short)

pub none-bad : {N E : Type 0} (r : Result N E) (text : List ℕ) (pieces : List (List ℕ)) → length text ≤ PAGE_FILE_MOST → pieces ≡ slice_split is_feed text
    → IfOk r (λ names. first_bad [] (lines_of pieces) ≡ None) → IfOk r (λ names. bad_line text ≡ None)
none-bad (Ok names) text pieces short are none = by-lines text short ∙ sym (ap (λ (l : List (List ℕ)). first_bad [] (lines_of l)) are) ∙ none
none-bad (Err fault) text pieces short are none = tt

pub refused-by : {N : Type 0} (r : Result N PageFileFault) (text : List ℕ) (pieces : List (List ℕ)) → length text ≤ PAGE_FILE_MOST → pieces ≡ slice_split is_feed text
    → IfErr r (λ fault. Refuses fault (first_bad [] (lines_of pieces))) → IfErr r (λ fault. Refuses fault (bad_line text))
refused-by (Ok names) text pieces short are refused = tt
refused-by (Err fault) text pieces short are refused = subst (Refuses fault) (ap (λ (l : List (List ℕ)). first_bad [] (lines_of l)) are ∙ sym (by-lines text short)) refused
