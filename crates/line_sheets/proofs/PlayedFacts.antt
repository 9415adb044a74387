-- A sheet that is played run by run.
use Rattle.std.proofs.Common.{◌≡◌, ◌∙◌, ℕ, suc, ◌+◌, ◌<◌, List, [], ◌∷◌, ◌++◌, length, refl, sym, ap, subst, arith, append_assoc, append-nil, length-append}
use Rattle.std.specs.List.{flat_map}
use Rattle.mib_model.specs.declared.database.Database.{Database}
use Rattle.mib_model.specs.Kept.{Memory}
use Rattle.line_sheets.specs.declared.reading.SheetWork.{SheetWork}
use Rattle.line_sheets.specs.declared.reading.SheetWork.TheVariants as work
use Rattle.line_sheets.specs.Pieces.{Played, behind, played, played_one}
use Rattle.line_sheets.specs.Playing.{GoesOn, left_played}
use Rattle.line_sheets.specs.Readings.{HasPlayed, IsPassed, IsTaken, LeftView, held_size}
use Rattle.line_sheets.specs.Lying.{act_as}
use Rattle.line_sheets.specs.Sheets.{AreSeated, Run, SheetView, piece_of, pieces_of, seat_of}
use Rattle.line_sheets.proofs.LyingFacts.{end-played, run-played}

seat-same : (seat : ℕ) (w : SheetWork) → seat_of (act_as seat w) ≡ seat
seat-same seat (work.Enter raw) = refl
seat-same seat (work.Calm number) = refl
seat-same seat (work.Open raw) = refl

-- the first run speaks of a name that has a seat
pub first-seated : (names : List (List ℕ)) (seat : ℕ) (w : SheetWork) (old new : LeftView) → IsPassed seat w old new → AreSeated names old.left.runs → seat < length names
first-seated names seat w old new passed seated =
    let all : AreSeated names ((passed.octets, act_as seat w) ∷ new.left.runs) = subst (AreSeated names) passed.taken.runs seated in
    subst (λ (n : ℕ). n < length names) (seat-same seat w) (all 0 (passed.octets, act_as seat w) (omega arith))

-- so do the others
others-seated : (names : List (List ℕ)) (seat : ℕ) (w : SheetWork) (old new : LeftView) → IsPassed seat w old new → AreSeated names old.left.runs → AreSeated names new.left.runs
others-seated names seat w old new passed seated =
    let all : AreSeated names ((passed.octets, act_as seat w) ∷ new.left.runs) = subst (AreSeated names) passed.taken.runs seated in
    λ k d below. all (suc k) d (omega (arith, below))

-- a run more was played
pub run-goes : (db : Database) (names : List (List ℕ)) (begun old passed left : LeftView) (seat : ℕ) (w : SheetWork) (text middle longer : List ℕ) (first before after : Memory)
    → GoesOn db names begun old text middle first before → IsPassed seat w old passed → left.left ≡ passed.left
    → HasPlayed (played_one db (piece_of names (act_as seat w)) before) after (middle ++ passed.pending) (longer ++ left.pending) → GoesOn db names begun left text longer first after
run-goes db names begun old passed left seat w text middle longer first before after goes is same has =
    let one = played_one db (piece_of names (act_as seat w)) before in
    let front = middle ++ old.pending in
    let wrote : longer ++ left.pending ≡ front ++ is.octets ++ one.1 =
    has.text ∙ ap (λ (t : List ℕ). t ++ one.1) (ap (λ (t : List ℕ). middle ++ t) is.pending ∙ sym (append_assoc middle old.pending is.octets)) in
    record {
      played = (λ i. behind (wrote i) (played db (pieces_of names (same i)) (has.memory i))) ∙
          (sym (run-played names db is.octets seat w old.left passed.left front before is.taken) ∙ goes.played);
      seated = subst (λ (s : SheetView). AreSeated names s.runs) (sym same) (others-seated names seat w old passed is goes.seated);
    }

-- all runs were played
pub end-goes : (db : Database) (names : List (List ℕ)) (sheet : SheetView) (begun left : LeftView) (text middle longer octets : List ℕ) (first after : Memory) → begun ≡ record { pending = []; left = sheet }
    → GoesOn db names begun left text middle first after → left.left.runs ≡ [] → octets ≡ left.pending ++ left.left.tail → longer ≡ middle ++ octets
    → HasPlayed (played db (pieces_of names sheet) first) after text longer
end-goes db names sheet begun left text middle longer octets first after began goes none are wrote =
    let whole : left_played db names text begun first ≡ behind text (played db (pieces_of names sheet) first) =
    ap (λ (v : LeftView). left_played db names text v first) began ∙ ap (λ (t : List ℕ). behind t (played db (pieces_of names sheet) first)) (append-nil text) in
    let done = sym (end-played names db left.left (middle ++ left.pending) after none) ∙ (goes.played ∙ whole) in
    record {
      memory = ap (λ (p : Played). p.0) done;
      text = (wrote ∙ (ap (λ (t : List ℕ). middle ++ t) are ∙ sym (append_assoc middle left.pending left.left.tail))) ∙ ap (λ (p : Played). p.1) done;
    }

-- the octets of a run are no longer left
taken-size : (octets : List ℕ) (seat : ℕ) (w : SheetWork) (old new : SheetView) → IsTaken octets seat w old new → held_size old ≡ length octets + held_size new
taken-size octets seat w old new taken =
    let runs : length (flat_map (λ (run : Run). run.0) old.runs) ≡ length (octets ++ flat_map (λ (run : Run). run.0) new.runs) = ap (λ (rs : List Run). length (flat_map (λ (run : Run). run.0) rs)) taken.runs in
    let both : length (octets ++ flat_map (λ (run : Run). run.0) new.runs) ≡ length octets + length (flat_map (λ (run : Run). run.0) new.runs) = length-append octets (flat_map (λ (run : Run). run.0) new.runs) in
    let tail = ap (λ (t : List ℕ). length t) taken.tail in
    omega (arith, runs, both, tail)

-- a run that is passed makes nothing longer
pub passed-size : (seat : ℕ) (w : SheetWork) (old new : LeftView) → IsPassed seat w old new
    → (length new.pending + held_size new.left ≡ length old.pending + held_size old.left) × (length old.left.runs ≡ length new.left.runs + 1)
passed-size seat w old new passed =
    let size = taken-size passed.octets seat w old.left new.left passed.taken in
    let pending : length new.pending ≡ length (old.pending ++ passed.octets) = ap (λ (t : List ℕ). length t) passed.pending in
    let both = length-append old.pending passed.octets in
    let runs : length old.left.runs ≡ suc (length new.left.runs) = ap (λ (rs : List Run). length rs) passed.taken.runs in
    (omega (arith, size, pending, both), omega (arith, runs))
