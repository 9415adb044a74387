-- What stands behind a sheet.
use Rattle.std.proofs.Common.{◌≡◌, ◌∙◌, ℕ, ◌+◌, ◌<◌, List, [], ◌∷◌, ◌++◌, length, inl, inr, refl, sym, ap, subst, arith, append_assoc, append-nil}
use Rattle.std.proofs.lemmas.Bool.{cases_lt}
use Rattle.std.proofs.lemmas.List.{get_or_append_left, get_or_push, length_push}
use Rattle.std.proofs.lemmas.List.Concat.{flat_map-append}
use Rattle.std.specs.List.{flat_map}
use Rattle.mib_model.specs.declared.database.Database.{Database}
use Rattle.mib_model.specs.Kept.{Memory}
use Rattle.line_sheets.specs.Pieces.{Piece, Played, Text, and_then, behind, played, played_one}
use Rattle.line_sheets.specs.Sheets.{Act, AreSeated, Run, SheetView, piece_of, pieces_of, run_pieces, seat_of, with_act, with_text}
use Rattle.line_sheets.specs.Drawings.{Adds}
use Rattle.line_sheets.proofs.PlayFacts.{behind-behind, played-append, played-one}

-- a text behind pieces
text-last : (db : Database) (front : List Piece) (text : List ℕ) (memory : Memory)
    → ◌≡◌ {A = Played} (played db (front ++ Text text ∷ []) memory) ((played db front memory).0, (played db front memory).1 ++ text)
text-last db front text memory = played-append db front (Text text ∷ []) memory ∙ ap (behind (played db front memory).1) (played-one db (Text text) (played db front memory).0)

-- octets behind a sheet
pub adds-text : (db : Database) (names : List (List ℕ)) (sheet : SheetView) (octets : List ℕ) → Adds db names sheet (with_text sheet octets) (λ memory. (memory, octets))
adds-text db names sheet octets = record {
  played = λ memory.
      let front = flat_map (run_pieces names) sheet.runs in
      let p = played db front memory in
      text-last db front (sheet.tail ++ octets) memory ∙
      (ap (λ (t : List ℕ). (p.0, t)) (sym (append_assoc p.1 sheet.tail octets)) ∙
      ap (λ (q : Played). and_then q (λ (m : Memory). (m, octets))) (sym (text-last db front sheet.tail memory)));
  seated = λ seated. seated;
}

act-text : (a b c : List ℕ) → (a ++ (b ++ (c ++ []))) ++ [] ≡ (a ++ b) ++ c
act-text a b c = append-nil (a ++ (b ++ (c ++ []))) ∙ (ap (λ (t : List ℕ). a ++ (b ++ t)) (append-nil c) ∙ sym (append_assoc a b c))

-- a text and another piece
two-played : (db : Database) (octets : List ℕ) (p : Piece) (memory : Memory)
    → played db (Text octets ∷ p ∷ []) memory ≡ ((played_one db p memory).0, octets ++ ((played_one db p memory).1 ++ []))
unfolding played
two-played db octets p memory = refl

-- one more seat
seated-more : (names : List (List ℕ)) (runs : List Run) (run : Run) → seat_of run.1 < length names → AreSeated names runs → AreSeated names (runs ++ run ∷ [])
seated-more names runs run below seated = λ k d within.
    elim (cases_lt k (length runs)) [
      | inl front ↦ subst (λ (r : Run). seat_of r.1 < length names) (sym (get_or_append_left runs (run ∷ []) d k front)) (seated k d front)
      | inr back ↦
          let long : length (runs ++ run ∷ []) ≡ length runs + 1 = length_push runs run in
          let last : k ≡ length runs = omega (arith, within, long, back) in
          subst (λ (r : Run). seat_of r.1 < length names) (sym (get_or_push runs run d k (sym last))) below
    ]

-- an act behind a sheet
pub adds-act : (db : Database) (names : List (List ℕ)) (sheet : SheetView) (act : Act) → seat_of act < length names → Adds db names sheet (with_act sheet act) (played_one db (piece_of names act))
adds-act db names sheet act below = record {
  played = λ memory.
      let front = flat_map (run_pieces names) sheet.runs in
      let piece = piece_of names act in
      let two : List Piece = Text sheet.tail ∷ piece ∷ [] in
      let p = played db front memory in
      let one = played_one db piece p.0 in
      let apart : flat_map (run_pieces names) (sheet.runs ++ (sheet.tail, act) ∷ []) ≡ front ++ two = flat_map-append (run_pieces names) sheet.runs ((sheet.tail, act) ∷ []) in
      let both : played db (front ++ two) memory ≡ (one.0, p.1 ++ (sheet.tail ++ (one.1 ++ []))) = played-append db front two memory ∙ ap (behind p.1) (two-played db sheet.tail piece p.0) in
      ap (λ (ps : List Piece). played db (ps ++ Text [] ∷ []) memory) apart ∙
      (text-last db (front ++ two) [] memory ∙
      (ap (λ (q : Played). (q.0, q.1 ++ [])) both ∙
      (ap (λ (t : List ℕ). (one.0, t)) (act-text p.1 sheet.tail one.1) ∙
      ap (λ (q : Played). and_then q (played_one db piece)) (sym (text-last db front sheet.tail memory)))));
  seated = seated-more names sheet.runs (sheet.tail, act) below;
}

-- nothing behind a sheet
pub adds-none : (db : Database) (names : List (List ℕ)) (sheet : SheetView) → Adds db names sheet sheet (λ memory. (memory, []))
adds-none db names sheet = record {
  played = λ memory.
      let p = played db (pieces_of names sheet) memory in
      ap (λ (t : List ℕ). (p.0, t)) (sym (append-nil p.1));
  seated = λ seated. seated;
}

-- more behind a sheet, and more behind that
pub adds-then : (db : Database) (names : List (List ℕ)) (one two three : SheetView) (f g : Memory → Played) → Adds db names one two f → Adds db names two three g
    → Adds db names one three (λ memory. and_then (f memory) g)
adds-then db names one two three f g first second = record {
  played = λ memory.
      let p = played db (pieces_of names one) memory in
      second.played memory ∙ (ap (λ (q : Played). and_then q g) (first.played memory) ∙ sym (behind-behind p.1 (f p.0).1 (g (f p.0).0)));
  seated = λ seated. second.seated (first.seated seated);
}

-- what is played alike
pub adds-same : (db : Database) (names : List (List ℕ)) (one two : SheetView) (f g : Memory → Played) → Adds db names one two f → ((memory : Memory) → f memory ≡ g memory) → Adds db names one two g
adds-same db names one two f g adds same = record {
  played = λ memory. let p = played db (pieces_of names one) memory in adds.played memory ∙ ap (behind p.1) (same p.0);
  seated = adds.seated;
}

-- the sheet that is meant
pub adds-to : (db : Database) (names : List (List ℕ)) (one two three : SheetView) (f : Memory → Played) → three ≡ two → Adds db names one two f → Adds db names one three f
adds-to db names one two three f is adds = subst (λ (s : SheetView). Adds db names one s f) (sym is) adds
