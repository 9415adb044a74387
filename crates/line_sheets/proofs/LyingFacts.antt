-- Sheets as they lie in memory.
use Rattle.std.proofs.Common.{◌≡◌, ◌∙◌, ℕ, zero, suc, ◌+◌, ◌<◌, ◌≤◌, true, ◌==◌, List, [], ◌∷◌, ◌++◌, length, get_or, take, drop, refl, sym, ap, subst, arith, append_assoc, append-nil, length-append}
use Rattle.std.proofs.lemmas.List.{length-take-le, length_push, take-append-drop, take-append-le, take_all}
use Rattle.std.proofs.lemmas.Bool.Decides.{nat_tests}
use Rattle.std.specs.List.{flat_map}
use Rattle.mib_model.specs.declared.database.Database.{Database}
use Rattle.mib_model.specs.declared.number.Eng.{Eng}
use Rattle.mib_model.specs.Kept.{Memory}
use Rattle.line_sheets.specs.declared.sheet.Deed.{Deed}
use Rattle.line_sheets.specs.declared.sheet.Deed.TheVariants as deed
use Rattle.line_sheets.specs.declared.sheet.SheetEvent.{SheetEvent}
use Rattle.line_sheets.specs.declared.reading.SheetWork.{SheetWork}
use Rattle.line_sheets.specs.Pieces.{Piece, Played, Text, behind, played, played_one}
use Rattle.line_sheets.specs.Readings.{HasPlayed, IsPassed, IsTaken, LeftView, left_from, held_size}
use Rattle.line_sheets.specs.Lying.{AreHeld, act_as, act_of, counts_of, counts_taken, last_at, no_count, raws_of, raws_taken, runs_in, sheet_in}
use Rattle.line_sheets.specs.Sheets.{Act, Run, SheetView, piece_of, pieces_of, run_pieces, with_act, with_text}
use Rattle.line_sheets.proofs.PlayFacts.{behind-behind, played-one}

drop-front : {A : Type 0} (n : ℕ) (xs ys : List A) → n ≤ length xs → drop n (xs ++ ys) ≡ drop n xs ++ ys
drop-front zero xs ys within = refl
drop-front (suc n) [] ys within = absurd (omega (arith, within))
drop-front (suc n) (x ∷ xs) ys within = drop-front n xs ys (omega (arith, within))

no-items : {A : Type 0} (xs : List A) → length xs ≡ 0 → xs ≡ []
no-items [] h = refl
no-items (x ∷ xs) h = absurd (omega (arith, h))

drop-all : {A : Type 0} (xs : List A) → drop (length xs) xs ≡ []
drop-all [] = refl
drop-all (x ∷ xs) = drop-all xs

-- where events begin isn't behind the end
pub held-within : (start : ℕ) (es : List SheetEvent) (raws : List ℕ) (counts : List Eng) (end : ℕ) → AreHeld start es raws counts end → start ≤ end
held-within start [] raws counts end held = held.0
held-within start (e ∷ es) raws counts end held =
    let rest = held-within e.at es _ _ end held.3 in
    omega (arith, held.0, rest)

-- nor is the last one
held-last : (start : ℕ) (es : List SheetEvent) (raws : List ℕ) (counts : List Eng) (end : ℕ) → AreHeld start es raws counts end → last_at start es ≤ end
held-last start [] raws counts end held = held.0
held-last start (e ∷ es) raws counts end held = held-last e.at es _ _ end held.3

-- a longer text
held-longer : (start : ℕ) (es : List SheetEvent) (raws : List ℕ) (counts : List Eng) (end longer : ℕ) → end ≤ longer → AreHeld start es raws counts end → AreHeld start es raws counts longer
held-longer start [] raws counts end longer more held = (omega (arith, held.0, more), held.1, held.2)
held-longer start (e ∷ es) raws counts end longer more held = (held.0, held.1, held.2, held-longer e.at es _ _ end longer more held.3)

-- octets behind the text leave the runs as they are
runs-text : (text octets : List ℕ) (start : ℕ) (es : List SheetEvent) (raws : List ℕ) (counts : List Eng) → AreHeld start es raws counts (length text)
    → runs_in (text ++ octets) start es raws counts ≡ runs_in text start es raws counts
runs-text text octets start [] raws counts held = refl
runs-text text octets start (e ∷ es) raws counts held =
    let front = take-append-le e.at text octets (held-within e.at es _ _ (length text) held.3) in
    let rest = runs-text text octets e.at es _ _ held.3 in
    λ i. (drop start (front i), act_of e.seat e.deed (get_or raws 0 0) (get_or counts 0 no_count)) ∷ rest i

-- octets behind the text
pub sheet-text : (text octets : List ℕ) (es : List SheetEvent) (raws : List ℕ) (counts : List Eng) → AreHeld 0 es raws counts (length text)
    → sheet_in (text ++ octets) es raws counts ≡ with_text (sheet_in text es raws counts) octets
sheet-text text octets es raws counts held =
    let runs = runs-text text octets 0 es raws counts held in
    let tail = drop-front (last_at 0 es) text octets (held-last 0 es raws counts (length text) held) in
    let long : length (text ++ octets) ≡ length text + length octets = length-append text octets in
    λ i. record { runs = runs i; tail = tail i; size = long i }

pub held-text : (text octets : List ℕ) (es : List SheetEvent) (raws : List ℕ) (counts : List Eng) → AreHeld 0 es raws counts (length text) → AreHeld 0 es raws counts (length (text ++ octets))
held-text text octets es raws counts held =
    let long : length (text ++ octets) ≡ length text + length octets = length-append text octets in
    held-longer 0 es raws counts (length text) (length (text ++ octets)) (omega (arith, long)) held

-- an act by numbers, and by these with more behind them
act-front : (seat : ℕ) (d : Deed) (raws r : List ℕ) (counts c : List Eng) → raws_taken d ≤ length raws → counts_taken d ≤ length counts
    → act_of seat d (get_or (raws ++ r) 0 0) (get_or (counts ++ c) 0 no_count) ≡ act_of seat d (get_or raws 0 0) (get_or counts 0 no_count)
act-front seat (deed.Enter below) [] r counts c one two = absurd (omega (arith, one))
act-front seat (deed.Enter below) (x ∷ raws) r counts c one two = refl
act-front seat deed.Calm raws r [] c one two = absurd (omega (arith, two))
act-front seat deed.Calm raws r (x ∷ counts) c one two = refl
act-front seat deed.Open raws r counts c one two = refl
act-front seat (deed.OpenRaw below) [] r counts c one two = absurd (omega (arith, one))
act-front seat (deed.OpenRaw below) (x ∷ raws) r counts c one two = refl

-- an act by its own numbers
act-own : (seat : ℕ) (d : Deed) (raw : ℕ) (number : Eng) → act_of seat d (get_or (raws_of d raw) 0 0) (get_or (counts_of d number) 0 no_count) ≡ act_of seat d raw number
act-own seat (deed.Enter below) raw number = refl
act-own seat deed.Calm raw number = refl
act-own seat deed.Open raw number = refl
act-own seat (deed.OpenRaw below) raw number = refl

-- its own numbers are those that it takes
held-own : (d : Deed) (raw : ℕ) (number : Eng) (at : ℕ) → (raws_taken d ≤ length (raws_of d raw)) × (counts_taken d ≤ length (counts_of d number)) × AreHeld at [] (drop (raws_taken d) (raws_of d raw)) (drop (counts_taken d) (counts_of d number)) at
held-own (deed.Enter below) raw number at = (omega arith, omega arith, (omega arith, refl, refl))
held-own deed.Calm raw number at = (omega arith, omega arith, (omega arith, refl, refl))
held-own deed.Open raw number at = (omega arith, omega arith, (omega arith, refl, refl))
held-own (deed.OpenRaw below) raw number at = (omega arith, omega arith, (omega arith, refl, refl))

-- where the text behind the last event begins, with one more
last-more : (start : ℕ) (es : List SheetEvent) (e : SheetEvent) → last_at start (es ++ e ∷ []) ≡ e.at
last-more start [] e = refl
last-more start (f ∷ es) e = last-more f.at es e

module _ (text : List ℕ) (e : SheetEvent) (raw : ℕ) (number : Eng) (here : e.at ≡ length text) where
  -- one more event, behind the others
  runs-more : (start : ℕ) (es : List SheetEvent) (raws : List ℕ) (counts : List Eng) → AreHeld start es raws counts (length text)
      → runs_in text start (es ++ e ∷ []) (raws ++ raws_of e.deed raw) (counts ++ counts_of e.deed number) ≡ runs_in text start es raws counts ++ (drop (last_at start es) text, act_of e.seat e.deed raw number) ∷ []
  runs-more start [] raws counts held =
      let whole = take_all e.at text (omega (arith, here)) in
      let first : raws ++ raws_of e.deed raw ≡ raws_of e.deed raw = ap (λ (l : List ℕ). l ++ raws_of e.deed raw) (no-items raws held.1) in
      let second : counts ++ counts_of e.deed number ≡ counts_of e.deed number = ap (λ (l : List Eng). l ++ counts_of e.deed number) (no-items counts held.2) in
      (λ i. (drop start (whole i), act_of e.seat e.deed (get_or (first i) 0 0) (get_or (second i) 0 no_count)) ∷ []) ∙ ap (λ (act : Act). (drop start text, act) ∷ []) (act-own e.seat e.deed raw number)
  runs-more start (f ∷ es) raws counts held =
      let act = act-front f.seat f.deed raws (raws_of e.deed raw) counts (counts_of e.deed number) held.1 held.2 in
      let first = drop-front (raws_taken f.deed) raws (raws_of e.deed raw) held.1 in
      let second = drop-front (counts_taken f.deed) counts (counts_of e.deed number) held.2 in
      let rest = runs-more f.at es (drop (raws_taken f.deed) raws) (drop (counts_taken f.deed) counts) held.3 in
      λ i. (drop start (take f.at text), act i) ∷ ((λ j. runs_in text f.at (es ++ e ∷ []) (first j) (second j)) ∙ rest) i

  -- they are held
  held-from : (start : ℕ) (es : List SheetEvent) (raws : List ℕ) (counts : List Eng) → AreHeld start es raws counts (length text)
      → AreHeld start (es ++ e ∷ []) (raws ++ raws_of e.deed raw) (counts ++ counts_of e.deed number) (length text)
  held-from start [] raws counts held =
      let own = held-own e.deed raw number e.at in
      let first : raws ++ raws_of e.deed raw ≡ raws_of e.deed raw = ap (λ (l : List ℕ). l ++ raws_of e.deed raw) (no-items raws held.1) in
      let second : counts ++ counts_of e.deed number ≡ counts_of e.deed number = ap (λ (l : List Eng). l ++ counts_of e.deed number) (no-items counts held.2) in
      let done : AreHeld start (e ∷ []) (raws_of e.deed raw) (counts_of e.deed number) (length text) = (omega (arith, held.0, here), own.0, own.1, (omega (arith, here), own.2.1, own.2.2)) in
      subst (λ (l : List ℕ). AreHeld start (e ∷ []) l (counts ++ counts_of e.deed number) (length text)) (sym first)
      (subst (λ (m : List Eng). AreHeld start (e ∷ []) (raws_of e.deed raw) m (length text)) (sym second) done)
  held-from start (f ∷ es) raws counts held =
      let r = raws_of e.deed raw in
      let c = counts_of e.deed number in
      let longer : length (raws ++ r) ≡ length raws + length r = length-append raws r in
      let more : length (counts ++ c) ≡ length counts + length c = length-append counts c in
      let first = drop-front (raws_taken f.deed) raws r held.1 in
      let second = drop-front (counts_taken f.deed) counts c held.2 in
      let rest = held-from f.at es (drop (raws_taken f.deed) raws) (drop (counts_taken f.deed) counts) held.3 in (
        held.0,
        omega (arith, held.1, longer),
        omega (arith, held.2, more),
        subst (λ (l : List ℕ). AreHeld f.at (es ++ e ∷ []) l (drop (counts_taken f.deed) (counts ++ c)) (length text)) (sym first)
            (subst (λ (m : List Eng). AreHeld f.at (es ++ e ∷ []) (drop (raws_taken f.deed) raws ++ r) m (length text)) (sym second) rest),
      )

  -- one more event, behind the others
  pub sheet-act : (es : List SheetEvent) (raws : List ℕ) (counts : List Eng) → AreHeld 0 es raws counts (length text)
      → sheet_in text (es ++ e ∷ []) (raws ++ raws_of e.deed raw) (counts ++ counts_of e.deed number) ≡ with_act (sheet_in text es raws counts) (act_of e.seat e.deed raw number)
  sheet-act es raws counts held =
      let runs = runs-more 0 es raws counts held in
      let tail : drop (last_at 0 (es ++ e ∷ [])) text ≡ [] = ap (λ (n : ℕ). drop n text) (last-more 0 es e ∙ here) ∙ drop-all text in
      λ i. record { runs = runs i; tail = tail i; size = length text }

  pub held-act : (es : List SheetEvent) (raws : List ℕ) (counts : List Eng) → AreHeld 0 es raws counts (length text)
      → AreHeld 0 (es ++ e ∷ []) (raws ++ raws_of e.deed raw) (counts ++ counts_of e.deed number) (length text)
  held-act es raws counts held = held-from 0 es raws counts held

-- octets behind the text of a sheet
module _ (text octets after : List ℕ) (es : List SheetEvent) (raws : List ℕ) (counts : List Eng) (held : AreHeld 0 es raws counts (length text)) (wrote : after ≡ text ++ octets) where
  pub write-view : (old : SheetView) → sheet_in text es raws counts ≡ old → sheet_in after es raws counts ≡ with_text old octets
  write-view old view = ap (λ (t : List ℕ). sheet_in t es raws counts) wrote ∙ (sheet-text text octets es raws counts held ∙ ap (λ (s : SheetView). with_text s octets) view)

  pub write-held : AreHeld 0 es raws counts (length after)
  write-held = subst (λ (t : List ℕ). AreHeld 0 es raws counts (length t)) (sym wrote) (held-text text octets es raws counts held)

-- a sheet with one more deed
module _ (text : List ℕ) (es more : List SheetEvent) (raws others : List ℕ) (counts numbers : List Eng) (held : AreHeld 0 es raws counts (length text)) (at seat : ℕ) (d : Deed) (raw : ℕ) (number : Eng)
    (here : at ≡ length text) (first : more ≡ es ++ record { at = at; seat = seat; deed = d } ∷ []) (second : others ≡ raws ++ raws_of d raw) (third : numbers ≡ counts ++ counts_of d number) where
  pub push-view : (old : SheetView) → sheet_in text es raws counts ≡ old → sheet_in text more others numbers ≡ with_act old (act_of seat d raw number)
  push-view old view =
      let e : SheetEvent = record { at = at; seat = seat; deed = d } in
      (λ i. sheet_in text (first i) (second i) (third i)) ∙ (sheet-act text e raw number here es raws counts held ∙ ap (λ (s : SheetView). with_act s (act_of seat d raw number)) view)

  pub push-held : AreHeld 0 more others numbers (length text)
  push-held =
      let e : SheetEvent = record { at = at; seat = seat; deed = d } in
      let all = held-act text e raw number here es raws counts held in
      subst (λ (l : List SheetEvent). AreHeld 0 l others numbers (length text)) (sym first)
      (subst (λ (l : List ℕ). AreHeld 0 (es ++ e ∷ []) l numbers (length text)) (sym second)
      (subst (λ (l : List Eng). AreHeld 0 (es ++ e ∷ []) (raws ++ raws_of d raw) l (length text)) (sym third) all))

-- the first event lies within the text
pub held-first : (start : ℕ) (es others : List SheetEvent) (raws : List ℕ) (counts : List Eng) (end : ℕ) (e : SheetEvent) → AreHeld start es raws counts end → es ≡ e ∷ others → e.at ≤ end
held-first start es others raws counts end e held is =
    let all : AreHeld start (e ∷ others) raws counts end = subst (λ (l : List SheetEvent). AreHeld start l raws counts end) is held in
    held-within e.at others (drop (raws_taken e.deed) raws) (drop (counts_taken e.deed) counts) end all.3

-- the pieces of a sheet whose first run is known
taken-pieces : (names : List (List ℕ)) (octets : List ℕ) (seat : ℕ) (w : SheetWork) (old new : SheetView) → IsTaken octets seat w old new
    → pieces_of names old ≡ Text octets ∷ piece_of names (act_as seat w) ∷ pieces_of names new
taken-pieces names octets seat w old new taken = λ i. flat_map (run_pieces names) (taken.runs i) ++ Text (taken.tail i) ∷ []

two-played : (db : Database) (octets : List ℕ) (p : Piece) (others : List Piece) (memory : Memory)
    → played db (Text octets ∷ p ∷ others) memory ≡ behind octets (behind (played_one db p memory).1 (played db others (played_one db p memory).0))
unfolding played
two-played db octets p others memory = refl

-- a run that was taken off
pub run-played : (names : List (List ℕ)) (db : Database) (octets : List ℕ) (seat : ℕ) (w : SheetWork) (old new : SheetView) (text : List ℕ) (memory : Memory) → IsTaken octets seat w old new
    → behind text (played db (pieces_of names old) memory) ≡ behind (text ++ octets ++ (played_one db (piece_of names (act_as seat w)) memory).1) (played db (pieces_of names new) (played_one db (piece_of names (act_as seat w)) memory).0)
run-played names db octets seat w old new text memory taken =
    let p = piece_of names (act_as seat w) in
    let one = played_one db p memory in
    let rest = played db (pieces_of names new) one.0 in
    ap (λ (ps : List Piece). behind text (played db ps memory)) (taken-pieces names octets seat w old new taken) ∙
    (ap (behind text) (two-played db octets p (pieces_of names new) memory) ∙
    (behind-behind text octets (behind one.1 rest) ∙ behind-behind (text ++ octets) one.1 rest))

-- no run is left
pub end-played : (names : List (List ℕ)) (db : Database) (sheet : SheetView) (text : List ℕ) (memory : Memory) → sheet.runs ≡ []
    → ◌≡◌ {A = Played} (behind text (played db (pieces_of names sheet) memory)) (memory, text ++ sheet.tail)
end-played names db sheet text memory none =
    ap (λ (runs : List Run). behind text (played db (flat_map (run_pieces names) runs ++ Text sheet.tail ∷ []) memory)) none ∙ ap (behind text) (played-one db (Text sheet.tail) memory)

-- where no run is left, there is no event
pub no-events : (text : List ℕ) (start : ℕ) (es : List SheetEvent) (raws : List ℕ) (counts : List Eng) → runs_in text start es raws counts ≡ [] → es ≡ []
no-events text start [] raws counts none = refl
no-events text start (e ∷ es) raws counts none = absurd (cc none)

-- a run fewer
pub taken-fewer : (octets : List ℕ) (seat : ℕ) (w : SheetWork) (old new : SheetView) → IsTaken octets seat w old new → length new.runs < length old.runs
taken-fewer octets seat w old new taken =
    let long : length old.runs ≡ suc (length new.runs) = ap (λ (runs : List Run). length runs) taken.runs in
    omega (arith, long)

-- all runs were
pub end-kept : (names : List (List ℕ)) (db : Database) (all rest : SheetView) (before after : Memory) (text middle longer : List ℕ) → rest.runs ≡ []
    → behind middle (played db (pieces_of names rest) after) ≡ behind text (played db (pieces_of names all) before) → longer ≡ middle ++ rest.tail
    → HasPlayed (played db (pieces_of names all) before) after text longer
end-kept names db all rest before after text middle longer none is added =
    let done = sym (end-played names db rest middle after none) ∙ is in
    record { memory = ap (λ (d : Played). d.0) done; text = added ∙ ap (λ (d : Played). d.1) done }

take-shorter : (n m : ℕ) (xs : List ℕ) → n ≤ m → take n (take m xs) ≡ take n xs
take-shorter zero m xs order = refl
take-shorter (suc n) zero xs order = absurd (omega (arith, order))
take-shorter (suc n) (suc m) [] order = refl
take-shorter (suc n) (suc m) (x ∷ xs) order = ap (λ (l : List ℕ). x ∷ l) (take-shorter n m xs (omega (arith, order)))

-- two parts of a text that lie one behind the other
parts-join : (text : List ℕ) (written start : ℕ) → written ≤ start → start ≤ length text → drop written (take start text) ++ drop start text ≡ drop written text
parts-join text written start order within =
    let long : length (take start text) ≡ start = length-take-le start text within in
    sym (drop-front written (take start text) (drop start text) (omega (arith, long, order))) ∙ ap (drop written) (take-append-drop start text)

-- up to an octet
pub parts-to : (text : List ℕ) (written start end : ℕ) → written ≤ start → start ≤ end → end ≤ length text → drop written (take end text) ≡ drop written (take start text) ++ drop start (take end text)
parts-to text written start end order before within =
    let long : length (take end text) ≡ end = length-take-le end text within in
    sym (ap (λ (t : List ℕ). drop written t ++ drop start (take end text)) (sym (take-shorter start end text before)) ∙ parts-join (take end text) written start order (omega (arith, long, before)))

-- up to the end
pub parts-rest : (text : List ℕ) (written start end : ℕ) → written ≤ start → start ≤ length text → end ≡ length text → drop written (take end text) ≡ drop written (take start text) ++ drop start text
parts-rest text written start end order within whole =
    ap (drop written) (take_all end text (omega (arith, whole))) ∙ sym (parts-join text written start order within)

-- nothing lies between an octet and itself
pub part-none : (text : List ℕ) (n : ℕ) → drop n (take n text) ≡ []
part-none text zero = refl
part-none [] (suc n) = refl
part-none (x ∷ text) (suc n) = part-none text n

empty-events : (es : List SheetEvent) → (length es == 0) ≡ true → es ≡ []
empty-events [] h = refl
empty-events (e ∷ es) h = absurd (grind (arith, nat_tests, h))

module _ (text : List ℕ) (written start : ℕ) (es : List SheetEvent) (raws : List ℕ) (counts : List Eng) (held : AreHeld start es raws counts (length text)) (order : written ≤ start) (old : LeftView)
    (view : left_from text written start es raws counts ≡ old) where
  -- the first run was passed
  pub pass-view : (others : List SheetEvent) (left : List ℕ) (numbers : List Eng) (e : SheetEvent) (raw : ℕ) (number : Eng) (w : SheetWork) → es ≡ e ∷ others → left ≡ drop (raws_taken e.deed) raws → numbers ≡ drop (counts_taken e.deed) counts
      → ((seat : ℕ) → act_as seat w ≡ act_of seat e.deed raw number) → raw ≡ get_or raws 0 0 → number ≡ get_or counts 0 no_count → IsPassed e.seat w old (left_from text written e.at others left numbers)
  pass-view others left numbers e raw number w is first second works own own' =
      let all : AreHeld start (e ∷ others) raws counts (length text) = subst (λ (l : List SheetEvent). AreHeld start l raws counts (length text)) is held in
      let octets = drop start (take e.at text) in
      let act : act_of e.seat e.deed (get_or raws 0 0) (get_or counts 0 no_count) ≡ act_as e.seat w = sym (works e.seat ∙ (λ i. act_of e.seat e.deed (own i) (own' i))) in
      let run : List Run → List Run = λ runs. (octets, act_as e.seat w) ∷ runs in
      record {
        octets = octets;
        taken = record {
          runs = sym (ap (λ (v : LeftView). v.left.runs) view) ∙ ((λ i. runs_in text start (is i) raws counts) ∙
              (λ i. (octets, act i) ∷ runs_in text e.at others (sym first i) (sym second i)));
          tail = sym (ap (λ (v : LeftView). v.left.tail) view) ∙ (λ i. drop (last_at start (is i)) text);
        };
        pending = parts-to text written start e.at order all.0 (held-first start es others raws counts (length text) e held is) ∙ ap (λ (v : LeftView). v.pending ++ octets) view;
      }

  -- no run is left
  pub rest-view : (end : ℕ) → end ≡ length text → (length es == 0) ≡ true → drop written (take end text) ≡ old.pending ++ old.left.tail
  rest-view end whole none =
      let tail : drop start text ≡ drop (last_at start es) text = λ i. drop (last_at start (sym (empty-events es none) i)) text in
      parts-rest text written start end order (held-within start es raws counts (length text) held) whole ∙
      (ap (λ (t : List ℕ). drop written (take start text) ++ t) tail ∙ ap (λ (v : LeftView). v.pending ++ v.left.tail) view)

-- a run fewer
pub passed-fewer : (seat : ℕ) (w : SheetWork) (old new : LeftView) → IsPassed seat w old new → length new.left.runs < length old.left.runs
passed-fewer seat w old new passed = taken-fewer passed.octets seat w old.left new.left passed.taken

-- all runs were passed
pub all-passed : (names : List (List ℕ)) (db : Database) (sheet : SheetView) (begun rest : LeftView) (before after : Memory) (text out octets longer : List ℕ) → rest.left.runs ≡ [] → begun ≡ record { pending = []; left = sheet }
    → behind (out ++ rest.pending) (played db (pieces_of names rest.left) after) ≡ behind (text ++ begun.pending) (played db (pieces_of names begun.left) before) → octets ≡ rest.pending ++ rest.left.tail → longer ≡ out ++ octets
    → HasPlayed (played db (pieces_of names sheet) before) after text longer
all-passed names db sheet begun rest before after text out octets longer none began is are wrote =
    end-kept names db sheet rest.left before after text (out ++ rest.pending) longer none
    (is ∙ (ap (λ (v : LeftView). behind (text ++ v.pending) (played db (pieces_of names v.left) before)) began ∙ ap (λ (t : List ℕ). behind t (played db (pieces_of names sheet) before)) (append-nil text)))
    (wrote ∙ (ap (λ (t : List ℕ). out ++ t) are ∙ sym (append_assoc out rest.pending rest.left.tail)))

-- as many runs as events
pub runs-count : (text : List ℕ) (start : ℕ) (es : List SheetEvent) (raws : List ℕ) (counts : List Eng) → length (runs_in text start es raws counts) ≡ length es
runs-count text start [] raws counts = refl
runs-count text start (e ∷ es) raws counts = ap suc (runs-count text e.at es (drop (raws_taken e.deed) raws) (drop (counts_taken e.deed) counts))

drop-length : {A : Type 0} (n : ℕ) (xs : List A) → n ≤ length xs → n + length (drop n xs) ≡ length xs
drop-length zero xs within = omega arith
drop-length (suc n) [] within = absurd (omega (arith, within))
drop-length (suc n) (x ∷ xs) within = let rest = drop-length n xs (omega (arith, within)) in omega (arith, rest)

-- the octets of a text, from one on
size-from : (text : List ℕ) (start : ℕ) (es : List SheetEvent) (raws : List ℕ) (counts : List Eng) → AreHeld start es raws counts (length text)
    → start + (length (flat_map (λ (run : Run). run.0) (runs_in text start es raws counts)) + length (drop (last_at start es) text)) ≡ length text
size-from text start [] raws counts held = let rest = drop-length start text held.0 in omega (arith, rest)
size-from text start (e ∷ es) raws counts held =
    let others = flat_map (λ (run : Run). run.0) (runs_in text e.at es (drop (raws_taken e.deed) raws) (drop (counts_taken e.deed) counts)) in
    let first = drop start (take e.at text) in
    let within = held-within e.at es _ _ (length text) held.3 in
    let part : length (take e.at text) ≡ e.at = length-take-le e.at text within in
    let own = drop-length start (take e.at text) (omega (arith, part, held.0)) in
    let both : length (first ++ others) ≡ length first + length others = length-append first others in
    let rest = size-from text e.at es (drop (raws_taken e.deed) raws) (drop (counts_taken e.deed) counts) held.3 in
    omega (arith, own, part, both, rest)

-- so many octets a sheet has
pub size-held : (text : List ℕ) (es : List SheetEvent) (raws : List ℕ) (counts : List Eng) → AreHeld 0 es raws counts (length text) → held_size (sheet_in text es raws counts) ≡ length text
size-held text es raws counts held = let size = size-from text 0 es raws counts held in omega (arith, size)

-- what stands behind octets
pub drop-own : (xs ys : List ℕ) → drop (length xs) (xs ++ ys) ≡ ys
drop-own [] ys = refl
drop-own (x ∷ xs) ys = drop-own xs ys

-- the octets that were written behind a sheet
pub write-behind : (octets : List ℕ) (old new : SheetView) → new ≡ with_text old octets → octets ≡ drop (length old.tail) new.tail
write-behind octets old new is = sym (ap (λ (s : SheetView). drop (length old.tail) s.tail) is ∙ drop-own old.tail octets)

-- as many events as runs
pub events_many : (text : List ℕ) (es : List SheetEvent) (raws : List ℕ) (counts : List Eng) (old : SheetView) → sheet_in text es raws counts ≡ old → length es ≡ length old.runs
events_many text es raws counts old view = sym (runs-count text 0 es raws counts) ∙ ap (λ (s : SheetView). length s.runs) view

-- an act more
pub act_events : (old new : SheetView) (act : Act) → new ≡ with_act old act → length new.runs ≡ length old.runs + 1
act_events old new act is = ap (λ (s : SheetView). length s.runs) is ∙ length_push old.runs (old.tail, act)

pub act_size : (old new : SheetView) (act : Act) → new ≡ with_act old act → new.size ≡ old.size
act_size old new act is = ap (λ (s : SheetView). s.size) is

-- octets more
pub text_events : (old new : SheetView) (octets : List ℕ) → new ≡ with_text old octets → length new.runs ≡ length old.runs
text_events old new octets is = ap (λ (s : SheetView). length s.runs) is
