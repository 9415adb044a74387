-- What the machine of `csv` makes of a table's text: a record of each piece between LF octets that is not empty.
use Rattle.std.proofs.Common.{◌≡◌, ◌≤◌, ◌<◌, ℕ, Bool, true, false, List, [], ◌∷◌, ◌++◌, length, Option, Some, None, ap, sym, refl, ◌∙◌, eqb, inl, inr, arith, Bor}
use Rattle.std.specs.Prelude.{IsSome, if◌then◌else◌, ◌==◌, not}
use Rattle.std.proofs.lemmas.List.{append-nil}
use Rattle.std.proofs.lemmas.Bool.{cases_Bool}
use Rattle.std.proofs.lemmas.Bool.Decides.{nat_tests}
use Rattle.std.specs.List.{slice_split, onto_first}
use Rattle.std.specs.Str.Lines.{strip_carriage_return}
use Rattle.csv.specs.declared.parser.Config.{Config}
use Rattle.csv.specs.declared.parser.State.{State}
use Rattle.csv.specs.declared.parser.State.TheVariants as state
use Rattle.csv.specs.Machine.{Read, next_record}
use Rattle.csv.specs.Reading.{NextIs, ReadRecord, ReadsNext, is_bom, pending_of, reader_state, strip_bom, took_first}
use Rattle.csv.specs.declared.reader.Reader.{Reader}
use Rattle.mib_model.specs.Lines.{fields, is_feed, lines, lines_of}
use Rattle.mib_model.specs.Reading.{is_marked}
use Rattle.mib_rows.specs.Left.{IsAtRecord, TakesLine, in_front, left_in, line_of, table_settings, without_last_return}
use Rattle.mib_rows.proofs.CutFacts.{inside, behind, behind_octet, behind_tab, behind-nothing, onto_first-behind}
use Rattle.mib_rows.proofs.ReturnFacts.{fields-return, line-return}

-- what stands before the first LF of a text, and what stands behind it
abbrev pub piece_of : List ℕ → List ℕ
piece_of [] = []
piece_of (c ∷ rest) = if eqb c 10 then [] else c ∷ piece_of rest

abbrev pub behind_piece : List ℕ → List ℕ
behind_piece [] = []
behind_piece (c ∷ rest) = if eqb c 10 then rest else behind_piece rest

-- a record of these fields, with this text behind it
abbrev pub record_before : List ℕ → List (List ℕ) → Option Read
record_before rest row = Some (row, state.StartRecord, rest)

tab_no_feed : (c : ℕ) → eqb c 9 ≡ true → eqb c 10 ≡ false
tab_no_feed c tab = grind (arith, nat_tests)

-- inside a piece the fields are those that are done, the one at hand, and those of the rest
next_inside : (start : Bool) (done : List (List ℕ)) (octets text : List ℕ)
    → next_record table_settings (inside start) done octets text ≡ record_before (behind_piece text) (done ++ behind octets (fields (piece_of text)))
unfolding next_record
next_inside true done octets [] = ap (λ first. record_before [] (done ++ first ∷ [])) (sym (append-nil octets))
next_inside false done octets [] = ap (λ first. record_before [] (done ++ first ∷ [])) (sym (append-nil octets))
next_inside true done octets (c ∷ rest) = elim (cases_Bool (eqb c 9)) [
  | inl tab ↦ rw (tab, tab_no_feed c tab) (rw tab (next_inside true (done ++ octets ∷ []) [] rest ∙ ap (record_before (behind_piece rest)) (behind_tab done octets (piece_of rest))))
  | inr other ↦ elim (cases_Bool (eqb c 10)) [
    | inl feed ↦ rw (other, feed) (ap (λ first. record_before rest (done ++ first ∷ [])) (sym (append-nil octets)))
    | inr inner ↦ rw (other, inner) (rw other (next_inside false done (octets ++ c ∷ []) rest ∙ ap (record_before (behind_piece rest)) (behind_octet done octets c (piece_of rest))))
  ]
]
next_inside false done octets (c ∷ rest) = elim (cases_Bool (eqb c 9)) [
  | inl tab ↦ rw (tab, tab_no_feed c tab) (rw tab (next_inside true (done ++ octets ∷ []) [] rest ∙ ap (record_before (behind_piece rest)) (behind_tab done octets (piece_of rest))))
  | inr other ↦ elim (cases_Bool (eqb c 10)) [
    | inl feed ↦ rw (other, feed) (ap (λ first. record_before rest (done ++ first ∷ [])) (sym (append-nil octets)))
    | inr inner ↦ rw (other, inner) (rw other (next_inside false done (octets ++ c ∷ []) rest ∙ ap (record_before (behind_piece rest)) (behind_octet done octets c (piece_of rest))))
  ]
]

-- the first piece of a text that is not empty, and what stands behind its LF
abbrev pub next_piece : List ℕ → Option (List ℕ × List ℕ)
next_piece [] = None
next_piece (c ∷ rest) = if eqb c 10 then next_piece rest else Some (c ∷ piece_of rest, behind_piece rest)

abbrev pub record_of : Option (List ℕ × List ℕ) → Option Read
record_of None = None
record_of (Some p) = record_before p.1 (fields p.0)

pub next-start : (text : List ℕ) → next_record table_settings state.StartRecord [] [] text ≡ record_of (next_piece text)
unfolding next_record
next-start [] = refl
next-start (c ∷ rest) = elim (cases_Bool (eqb c 10)) [
  | inl feed ↦ rw feed (next-start rest)
  | inr other ↦ elim (cases_Bool (eqb c 9)) [
    | inl tab ↦ rw (other, tab) (next_inside true ([] ∷ []) [] rest ∙ ap (λ parts. record_before (behind_piece rest) ([] ∷ parts)) (behind-nothing (piece_of rest)))
    | inr inner ↦ rw (other, inner) (next_inside false [] (c ∷ []) rest ∙ ap (record_before (behind_piece rest)) (onto_first-behind c (fields (piece_of rest))))
  ]
]

-- the pieces behind the first one
abbrev pub more_pieces : List ℕ → List (List ℕ)
more_pieces [] = []
more_pieces (c ∷ rest) = if eqb c 10 then slice_split is_feed rest else more_pieces rest

split-piece : (text : List ℕ) → slice_split is_feed text ≡ piece_of text ∷ more_pieces text
split-piece [] = refl
split-piece (c ∷ rest) = elim (cases_Bool (eqb c 10)) [
  | inl feed ↦ rw feed refl
  | inr other ↦ rw other (ap (onto_first c) (split-piece rest))
]

more-lines : (text : List ℕ) → lines_of (more_pieces text) ≡ lines (behind_piece text)
unfolding lines_of
more-lines [] = refl
more-lines (c ∷ rest) = elim (cases_Bool (eqb c 10)) [
  | inl feed ↦ rw feed refl
  | inr other ↦ rw other (more-lines rest)
]

front-line : (line : List ℕ) (more : List (List ℕ)) → (if not (length line == 0) then line ∷ more else more) ≡ in_front line more
front-line [] more = refl
front-line (c ∷ line) more =
    let some : (length (c ∷ line) == 0) ≡ false = grind (arith, nat_tests) in
    rw some refl

front-lines : (piece : List ℕ) (pieces : List (List ℕ)) → lines_of (piece ∷ pieces) ≡ in_front (strip_carriage_return piece) (lines_of pieces)
unfolding lines_of
front-lines piece pieces = front-line (strip_carriage_return piece) (lines_of pieces)

-- the lines of a text, by its first piece that is not empty
abbrev pub lines_by : Option (List ℕ × List ℕ) → List (List ℕ)
lines_by None = []
lines_by (Some p) = in_front (strip_carriage_return p.0) (lines p.1)

pub lines-next : (text : List ℕ) → lines text ≡ lines_by (next_piece text)
unfolding lines_of
lines-next [] = refl
lines-next (c ∷ rest) = elim (cases_Bool (eqb c 10)) [
  | inl feed ↦ rw feed (lines-next rest)
  | inr other ↦ rw other (ap (λ pieces. lines_of (onto_first c pieces)) (split-piece rest) ∙ front-lines (c ∷ piece_of rest) (more_pieces rest)
      ∙ ap (in_front (strip_carriage_return (c ∷ piece_of rest))) (more-lines rest))
]

behind-length : (text : List ℕ) → length (behind_piece text) ≤ length text
behind-length [] = omega arith
behind-length (c ∷ rest) = elim (cases_Bool (eqb c 10)) [
  | inl feed ↦ rw feed (omega arith)
  | inr other ↦ rw other (omega (arith, behind-length rest))
]

-- less is left behind a piece
pub left-less : (text : List ℕ) (p : List ℕ × List ℕ) → next_piece text ≡ Some p → length p.1 < length text
left-less [] p next = cc next
left-less (c ∷ rest) p next = elim (cases_Bool (eqb c 10)) [
  | inl feed ↦ omega (arith, left-less rest p (rw feed at next))
  | inr other ↦
      let same : Some (c ∷ piece_of rest, behind_piece rest) ≡ Some p = rw other at next in
      let behind_is : behind_piece rest ≡ p.1 = ap (λ (o : Option (List ℕ × List ℕ)). second o) same in
      rw (← behind_is) (omega (arith, behind-length rest))
]
  where
    second : Option (List ℕ × List ℕ) → List ℕ
    second None = []
    second (Some q) = q.1

-- a text that begins with no mark is read as it stands
pub strip_bom-text : (text : List ℕ) → is_marked text ≡ false → strip_bom text ≡ text
unfolding strip_bom
strip_bom-text [] plain = refl
strip_bom-text (a ∷ []) plain = refl
strip_bom-text (a ∷ b ∷ []) plain = refl
strip_bom-text (a ∷ b ∷ c ∷ rest) plain =
    let none : is_bom a b c ≡ false = grind (arith, nat_tests) in
    rw none refl

-- what a read of a record finds
pub record Finds (old new : Option (List ℕ)) (found : Bool) (cells : List (List ℕ)) (after : State) : Type 0 where
  pub line : TakesLine old new found (without_last_return cells)
  pub start : found ≡ true → after ≡ state.StartRecord
  pub known : found ≡ true → IsSome new

taken : (text rest : List ℕ) (next : Option (List ℕ × List ℕ)) (found : Bool) (cells : List (List ℕ)) (after : State) → next_piece text ≡ next
    → NextIs (record_of next) found cells after rest → Finds (Some text) (Some rest) found cells after
taken text rest None found cells after next reads = record {
  line = record { none = λ _. lines-next text ∙ ap lines_by next; some = λ there. cc; whole = λ there. cc; less = λ there. cc };
  start = λ there. cc;
  known = λ there. cc;
}
taken text rest (Some p) found cells after next reads =
    let line_is : line_of (without_last_return cells) ≡ strip_carriage_return p.0 = rw reads.1 (line-return p.0) in
    record {
      line = record {
        none = λ no. cc (reads.0);
        some = λ _. rw (line_is, reads.3) (lines-next text ∙ ap lines_by next);
        whole = λ _. rw (line_is, reads.1) (fields-return p.0);
        less = λ _. rw reads.3 (left-less text p next);
      };
      start = λ _. reads.2;
      known = λ _. refl;
    }

record-read : (config : Config) (before after : State) (source rest left : Option (List ℕ)) (found : Bool) (cells : List (List ℕ))
    → config ≡ table_settings → before ≡ state.StartRecord → IsSome source → left ≡ rest → ReadsNext config before source rest found cells after → Finds source left found cells after
record-read config before after None rest left found cells same start known is reads = cc known
record-read config before after (Some text) None left found cells same start known is reads = absurd reads
record-read config before after (Some text) (Some behind) left found cells same start known is reads =
    rw is (taken text behind (next_piece text) found cells after refl (rw (same, start, next-start text) at reads))

-- what a read finds of a reader in front of a record, and where it leaves it
pub line-read : (old new : Reader (Bor (List ℕ))) (found : Bool) (cells : List (List ℕ)) → IsAtRecord old → ReadRecord (λ s. Some s.now) old new found cells
    → Finds (left_in old) (left_in new) found cells (reader_state new)
line-read old new found cells at reads = record-read old.config old.state new.state (left_in old) (pending_of (Some new.rdr.now) new) (left_in new) found cells
    at.config at.start at.known (rw reads.1 refl) reads.0

pub record-next : (old new : Reader (Bor (List ℕ))) (found : Bool) (cells : List (List ℕ)) → IsAtRecord old → ReadRecord (λ s. Some s.now) old new found cells
    → took_first new ≡ true → found ≡ true → IsAtRecord new
record-next old new found cells at reads first there =
    let finds = line-read old new found cells at reads in
    record {
      config = reads.2 ∙ at.config;
      trim = reads.3 ∙ at.trim;
      ready = inl first;
      start = finds.start there;
      known = finds.known there;
    }
