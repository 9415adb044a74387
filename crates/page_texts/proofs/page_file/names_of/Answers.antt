use Rattle.std.proofs.Common.{rules, ◌≡◌, ◌∙◌, ℕ, ◌+◌, List, [], ◌∷◌, ◌++◌, Bor, drop, map, refl, sym, ap, subst, append-nil}
use Rattle.mib_model.specs.Lines.{lines_of}
use Rattle.page_texts.specs.PageFiles.{Refuses, first_bad}
use Rattle.page_texts.proofs.NameFacts.{judged, left, none-left, nothing, taken}
use Rattle.page_texts.proofs.page_file.names_of.Goals.{in-Some+in_ok-take_name, in_default}
use Rattle.page_texts.proofs.page_file.names_of.Goals as goal

pub returns-in_err-take_name-clause-refused : goal.returns-in_err-take_name-clause-refused
returns-in_err-take_name-clause-refused c =
    let pieces : List (Bor (List ℕ)) = c.args.pieces.now in let at : ℕ = c.loop-piece.piece-index in
    let later = lines_of (map (λ (piece : Bor (List ℕ)). piece.now) (drop (at + 1) pieces)) in
    let is = left pieces at nothing c.loop-piece-test.true (c.in-Some.line.now ∷ []) c.in-Some.ensures.line in
    let told = c.in_err-take_name.ensures.refused later in
    let said : Refuses c.in_err-take_name.field-0.0 (first_bad [] (lines_of (map (λ (piece : Bor (List ℕ)). piece.now) pieces))) =
    subst (Refuses c.in_err-take_name.field-0.0) (sym (c.loop-piece.invariant.rest ∙ ap (first_bad c.loop-piece.names.items) is)) told in
    search rules

pub loop-piece-preserved : goal.loop-piece-preserved
loop-piece-preserved c =
    let pieces : List (Bor (List ℕ)) = c.args.pieces.now in let at : ℕ = c.loop-piece.piece-index in
    let all = lines_of (map (λ (piece : Bor (List ℕ)). piece.now) pieces) in
    let before : List (List ℕ) = c.loop-piece.names.items in
    let rest = lines_of (map (λ (piece : Bor (List ℕ)). piece.now) (drop at pieces)) in
    let later = lines_of (map (λ (piece : Bor (List ℕ)). piece.now) (drop (at + 1) pieces)) in
    let inv = c.loop-piece.invariant in elim c.match-line_in.branch [
      | in-Some+in_ok-take_name w ↦
          let line : List ℕ = w.in-Some.line.now in
          let is = left pieces at nothing c.loop-piece-test.true (line ∷ []) w.in-Some.ensures.line in
          let same : c.match-line_in.names.items ≡ before ++ line ∷ [] = rw w.names-is w.in_ok-take_name.ensures.taken in record {
            few = rw w.names-is w.in_ok-take_name.ensures.few;
            names = subst (λ (l : List (List ℕ)). all ≡ l ++ later) (sym same) (taken all before rest later line is inv.names);
            rest = subst (λ (l : List (List ℕ)). first_bad [] all ≡ first_bad l later) (sym same) (judged (first_bad [] all) before rest later line is w.in_ok-take_name.ensures.fits inv.rest);
          }
      | in_default w ↦
          let is = left pieces at nothing c.loop-piece-test.true [] w.in_default.ensures.none in
          let same : c.match-line_in.names.items ≡ before = rw w.names-is refl in record {
            few = rw w.names-is inv.few;
            names = subst (λ (l : List (List ℕ)). all ≡ l ++ later) (sym same) (inv.names ∙ ap (λ (l : List (List ℕ)). before ++ l) is);
            rest = subst (λ (l : List (List ℕ)). first_bad [] all ≡ first_bad l later) (sym same) (inv.rest ∙ ap (first_bad before) is);
          }
    ]

pub returns-clause-names : goal.returns-clause-names
returns-clause-names c =
    let none = none-left c.args.pieces.now c.loop-piece.piece-index c.loop-piece-test.false in
    let inv = c.loop-piece.invariant in
    sym (inv.names ∙ ap (λ (l : List (List ℕ)). c.loop-piece.names.items ++ l) none ∙ append-nil c.loop-piece.names.items)

pub returns-clause-sound : goal.returns-clause-sound
returns-clause-sound c =
    let none = none-left c.args.pieces.now c.loop-piece.piece-index c.loop-piece-test.false in
    c.loop-piece.invariant.rest ∙ ap (first_bad c.loop-piece.names.items) none
