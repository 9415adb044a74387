-- The lines of a text, and texts that grow.
use Rattle.std.proofs.Common.{◌≡◌, ℕ, suc, ◌+◌, ◌-◌, ◌<◌, Bool, true, false, List, [], ◌∷◌, ◌++◌, length, take, get_or, refl, ap, sym, ◌∙◌, arith, append_assoc, length-append, length-take, get_or-take, subst, add-one, cond, nat_lt, count_by, Some, None, Ok, Err}
use Rattle.std.specs.Prelude.{Result, MatchResult}
use Rattle.std.specs.declared.snapshot.Snapshot.{Snapshot}
use Rattle.std.specs.Io.KnownBytes.{WriteAppends}
use Rattle.std.specs.List.{All, slice_split, flat_map, position, position_or_len, range_with_len}
use Rattle.std.proofs.lemmas.List.{append-nil, map-append}
use Rattle.std.proofs.lemmas.List.Splits.{slice_split_none, slice_split_at}
use Rattle.std.proofs.lemmas.List.Sums.{count_by-le-length, fails_before_first}
use Rattle.std.proofs.lemmas.Grind.{flat_map-append}
use Rattle.std.proofs.Math.Seq.{take-append_seam, take-suc}
use Rattle.std.proofs.lemmas.Bool.Decides.{nat_tests}
use Rattle.std.proofs.lemmas.List.Elements.{All-map, All-append, All-cons, All-nil}
use Rattle.std.proofs.lemmas.List.Quantifiers.{position-Some}
use Rattle.mib_model.specs.Lines.{is_feed}
use Rattle.run_model.specs.Script.{whole_pieces}
use Rattle.tm_drill.specs.declared.counts.Counts.{Counts}
use Rattle.tm_drill.specs.declared.tables.TheConstants.{KINDS}
use Rattle.tm_drill.specs.Counts.{counts_in, AreBelow, is_packet, is_unknown, is_alarm, is_clear}
use Rattle.tm_drill.specs.Told.{ended, text_of, IsOneLine, IsKept, shown}

-- the rest of a list of which each item has a property
each-rest : {X : Type 0} (P : X → Type 0) (x : X) (xs : List X) → All P (x ∷ xs) → All P xs
each-rest P x xs each = λ k d h. each (suc k) d (omega arith)

-- a text is cut at its LFs into its lines and the front of a next one
cut-lines : (lines : List (List ℕ)) (front : List ℕ) → All IsOneLine lines → IsOneLine front → slice_split is_feed (text_of lines front) ≡ lines ++ front ∷ []
cut-lines [] front each next = slice_split_none is_feed front next
cut-lines (line ∷ lines) front each next =
    ap (slice_split is_feed) (append_assoc (ended line) (flat_map ended lines) front ∙ append_assoc line (10 ∷ []) (text_of lines front))
    ∙ (slice_split_at is_feed line 10 (text_of lines front) (each 0 [] (omega arith)) refl ∙ ap (λ pieces. line ∷ pieces) (cut-lines lines front (each-rest IsOneLine line lines each) next))

-- the pieces of a text that end with an LF are its lines
pub whole-lines : (lines : List (List ℕ)) (front : List ℕ) → All IsOneLine lines → IsOneLine front → whole_pieces (text_of lines front) ≡ lines
whole-lines lines front each next =
    let many : length (lines ++ front ∷ []) - 1 ≡ length lines = omega (arith, length-append lines (front ∷ [])) in
    ap (λ pieces. take (length pieces - 1) pieces) (cut-lines lines front each next) ∙ (ap (λ n. take n (lines ++ front ∷ [])) many ∙ take-append_seam lines (front ∷ []))

-- a line ends
pub line-more : (lines : List (List ℕ)) (front part : List ℕ) → text_of (lines ++ (front ++ part) ∷ []) [] ≡ text_of lines front ++ (part ++ 10 ∷ [])
line-more lines front part = simp (flat_map-append, append_assoc, append-nil)

below-some : (p : List ℕ → Bool) (lines : List (List ℕ)) (most : ℕ) → length lines < most → count_by p lines < most
below-some p lines most few = omega (arith, count_by-le-length p lines)

-- the counts of few lines are small
few-below : (most : ℕ) (lines : List (List ℕ)) → length lines < most → AreBelow most (counts_in lines)
unfolding counts_in
few-below most lines few = record {
  packets = All-map (λ count. count < most) (λ place. count_by (is_packet (place + 1)) lines) (range_with_len 0 KINDS) (λ k d h. below-some _ lines most few);
  unknown = below-some is_unknown lines most few;
  alarms = below-some is_alarm lines most few;
  clears = below-some is_clear lines most few;
}

pub counts-below : (most : ℕ) (lines : List (List ℕ)) (counts : Counts) → counts ≡ counts_in lines → length lines < most → AreBelow most counts
counts-below most lines counts is few = subst (AreBelow most) (sym is) (few-below most lines few)

-- what is kept when a line ends
pub kept-more : (counts new : Counts) (lines : List (List ℕ)) (front part : List ℕ) (handed : ℕ) → IsKept counts lines front handed → IsOneLine part
    → new ≡ counts_in (lines ++ (front ++ part) ∷ []) → IsKept new (lines ++ (front ++ part) ∷ []) [] handed
kept-more counts new lines front part handed kept one is = record {
  counted = is;
  each = All-append IsOneLine lines ((front ++ part) ∷ []) kept.each (All-cons IsOneLine (front ++ part) [] (All-append (λ octet. is_feed octet ≡ false) front part kept.next one) (All-nil IsOneLine));
  next = All-nil (λ octet. is_feed octet ≡ false);
  within = omega (arith, kept.within, length-append lines ((front ++ part) ∷ []));
}

-- what stands before the first LF is one line
pub one-line : (piece : List ℕ) (n : ℕ) → position is_feed piece ≡ Some n → IsOneLine (take n piece)
one-line piece n is = λ k d h.
    let first = position-Some is_feed piece n d is in
    let below : k < n = omega (arith, h, length-take n piece) in
    ap is_feed (get_or-take n piece k d below) ∙ first.2 k below

none-late : (b : Bool) (n : ℕ) → cond b (Some n) None ≡ None → b ≡ false
none-late true n is = cc
none-late false n is = refl

-- where no LF stands all is one line
pub all-one-line : (piece : List ℕ) → position is_feed piece ≡ None → IsOneLine piece
all-one-line piece none = λ k d h.
    let late = none-late (nat_lt (position_or_len is_feed piece) (length piece)) (position_or_len is_feed piece) none in
    let before : k < position_or_len is_feed piece = grind (arith, nat_tests, late) in
    fails_before_first is_feed piece k d before

-- the octets up to and with the first LF
pub with-feed : (piece : List ℕ) (n : ℕ) → position is_feed piece ≡ Some n → take n piece ++ 10 ∷ [] ≡ take (n + 1) piece
with-feed piece n is =
    let first = position-Some is_feed piece n 0 is in
    let feed : get_or piece n 0 ≡ 10 = grind (arith, nat_tests, first.1) in
    sym (ap (λ m. take m piece) (add-one n) ∙ (take-suc piece n 0 first.0 ∙ ap (λ octet. take n piece ++ octet ∷ []) feed))

-- one more line that a snapshot shows
pub shown-more : (before after : List (Snapshot (List ℕ))) (more : Snapshot (List ℕ)) (line : List ℕ) → after ≡ before ++ more ∷ [] → more.value ≡ line → shown after ≡ shown before ++ line ∷ []
shown-more before after more line is value = ap shown is ∙ (map-append (λ (s : Snapshot (List ℕ)). s.value) before (more ∷ []) ∙ ap (λ l. shown before ++ l ∷ []) value)

-- what a write up to an LF appends
pub write-line : {E : Type 0} (r : Result ℕ E) (old new piece : List ℕ) (end : ℕ) → position is_feed piece ≡ Some end
    → MatchResult r (λ n. (n ≡ length (take end piece) + 1) × (new ≡ old ++ (take end piece ++ 10 ∷ []))) (λ _. new ≡ old) → WriteAppends (Some old) (Some new) r piece
write-line (Ok n) old new piece end is (long, text) =
    let within = (position-Some is_feed piece end 0 is).0 in
    let same : end + 1 ≡ n = omega (arith, length-take end piece) in
    text ∙ ap (λ octets. old ++ octets) (with-feed piece end is ∙ ap (λ m. take m piece) same)
write-line (Err e) old new piece end is kept = kept
