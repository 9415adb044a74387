-- The first line that differs is the one in which the first octet does.
use Rattle.std.proofs.Common.{◌≡◌, ℕ, suc, Bool, true, false, cond, List, [], ◌∷◌, Some, None, refl, sym, ap, ◌∙◌}
use Rattle.std.specs.Prelude.{◌==◌, ◌&&◌}
use Rattle.std.specs.List.{AllByRecursion}
use Rattle.std.specs.Str.{bytes_eq}
use Rattle.std.proofs.lemmas.Bool.{eqb-true, eq-eqb}
use Rattle.mib_model.specs.Lines.{is_feed}
use Rattle.tm_audit.specs.Laws.{AloneIsSame, PartsInLine}
use Rattle.tm_audit.specs.TextLines.{first_apart, parting, text_lines, with_octet}

-- a list that has an item
HasOctet : List ℕ → Type 0
HasOctet [] = ⊥
HasOctet (octet ∷ rest) = Unit {0}

-- the lines of a text that begins with an octet, by whether that is an LF
lines_by : Bool → ℕ → List (List ℕ) → List (List ℕ)
lines_by feed octet lines = cond feed ((octet ∷ []) ∷ lines) (with_octet octet lines)

lines-have : (feed : Bool) (octet : ℕ) (lines : List (List ℕ)) → AllByRecursion HasOctet lines → AllByRecursion HasOctet (lines_by feed octet lines)
unfolding HasOctet lines_by
lines-have true octet lines have = (tt, have)
lines-have false octet [] have = (tt, tt)
lines-have false octet (line ∷ lines) have = (tt, have.1)

have-octets : (text : List ℕ) → AllByRecursion HasOctet (text_lines text)
unfolding text_lines lines_by
have-octets [] = tt
have-octets (octet ∷ rest) = lines-have (is_feed octet) octet (text_lines rest) (have-octets rest)

-- lines that begin with one octet
same-first : (number octet : ℕ) (line other : List ℕ) (lines others : List (List ℕ)) →
    first_apart number ((octet ∷ line) ∷ lines) ((octet ∷ other) ∷ others) ≡ cond (bytes_eq line other) (first_apart (suc number) lines others) (Some number)
unfolding first_apart
same-first number octet line other lines others =
    ap (λ (b : Bool). cond (b && bytes_eq line other) (first_apart (suc number) lines others) (Some number)) (eq-eqb octet octet refl)

-- lines that begin with different octets
other-first : (number octet another : ℕ) (line other : List ℕ) (lines others : List (List ℕ)) → (octet == another) ≡ false →
    first_apart number ((octet ∷ line) ∷ lines) ((another ∷ other) ∷ others) ≡ Some number
unfolding first_apart
other-first number octet another line other lines others differ =
    ap (λ (b : Bool). cond (b && bytes_eq line other) (first_apart (suc number) lines others) (Some number)) differ

-- an octet in front of the lines of both
front-both : (number octet : ℕ) (lines others : List (List ℕ)) → AllByRecursion HasOctet lines → AllByRecursion HasOctet others →
    first_apart number (with_octet octet lines) (with_octet octet others) ≡ first_apart number lines others
unfolding first_apart HasOctet
front-both number octet [] [] have too = same-first number octet [] [] [] []
front-both number octet [] ([] ∷ others) have too = absurd too.0
front-both number octet [] ((c ∷ cs) ∷ others) have too = same-first number octet [] (c ∷ cs) [] others
front-both number octet ([] ∷ lines) [] have too = absurd have.0
front-both number octet ((c ∷ cs) ∷ lines) [] have too = same-first number octet (c ∷ cs) [] lines []
front-both number octet (line ∷ lines) (other ∷ others) have too = same-first number octet line other lines others

same-by : (feed : Bool) (number octet : ℕ) (lines others : List (List ℕ)) → AllByRecursion HasOctet lines → AllByRecursion HasOctet others →
    first_apart number (lines_by feed octet lines) (lines_by feed octet others) ≡ first_apart (cond feed (suc number) number) lines others
unfolding lines_by
same-by true number octet lines others have too = same-first number octet [] [] lines others
same-by false number octet lines others have too = front-both number octet lines others have too

-- the first line of a text with an octet
first-line : (feed : Bool) (octet : ℕ) (lines : List (List ℕ)) → (line : List ℕ) × (more : List (List ℕ)) × (lines_by feed octet lines ≡ (octet ∷ line) ∷ more)
unfolding lines_by
first-line true octet lines = ([], lines, refl)
first-line false octet [] = ([], [], refl)
first-line false octet (line ∷ lines) = (line, lines, refl)

other-by : (feed too : Bool) (number octet another : ℕ) (lines others : List (List ℕ)) → (octet == another) ≡ false →
    first_apart number (lines_by feed octet lines) (lines_by too another others) ≡ Some number
other-by feed too number octet another lines others differ =
    let one = first-line feed octet lines in
    let two = first-line too another others in
    (λ i. first_apart number (one.2 i) (two.2 i)) ∙ other-first number octet another one.0 two.0 one.1 two.1 differ

-- a text with an octet beside one without
none-beside : (feed : Bool) (number octet : ℕ) (lines : List (List ℕ)) → first_apart number (lines_by feed octet lines) [] ≡ Some number
unfolding first_apart
none-beside feed number octet lines = let one = first-line feed octet lines in ap (λ (l : List (List ℕ)). first_apart number l []) one.2

beside-none : (feed : Bool) (number octet : ℕ) (lines : List (List ℕ)) → first_apart number [] (lines_by feed octet lines) ≡ Some number
unfolding first_apart
beside-none feed number octet lines = let one = first-line feed octet lines in ap (λ (l : List (List ℕ)). first_apart number [] l) one.2

parts-by : (same : Bool) (number octet another : ℕ) (rest others : List ℕ) → (octet == another) ≡ same →
    ((n : ℕ) → first_apart n (text_lines rest) (text_lines others) ≡ parting n rest others) →
    first_apart number (text_lines (octet ∷ rest)) (text_lines (another ∷ others))
    ≡ cond same (parting (cond (is_feed octet) (suc number) number) rest others) (Some number)
unfolding text_lines lines_by
parts-by false number octet another rest others is go = other-by (is_feed octet) (is_feed another) number octet another (text_lines rest) (text_lines others) is
parts-by true number octet another rest others is go =
    ap (λ (c : ℕ). first_apart number (text_lines (octet ∷ rest)) (text_lines (c ∷ others))) (sym (eqb-true octet another is))
    ∙ (same-by (is_feed octet) number octet (text_lines rest) (text_lines others) (have-octets rest) (have-octets others) ∙ go (cond (is_feed octet) (suc number) number))

pub parts : (number : ℕ) (text other : List ℕ) → first_apart number (text_lines text) (text_lines other) ≡ parting number text other
unfolding text_lines first_apart parting lines_by
parts number [] [] = refl
parts number [] (octet ∷ rest) = beside-none (is_feed octet) number octet (text_lines rest)
parts number (octet ∷ rest) [] = none-beside (is_feed octet) number octet (text_lines rest)
parts number (octet ∷ rest) (another ∷ others) = parts-by (octet == another) number octet another rest others refl (λ n. parts n rest others)

pub parts_in_line : PartsInLine
parts_in_line text other = parts 1 text other

-- texts that don't part
part-none : (number : ℕ) (text other : List ℕ) → parting number text other ≡ None → text ≡ other
unfolding parting
part-none number [] [] e = refl
part-none number [] (octet ∷ rest) e = absurd (cc e)
part-none number (octet ∷ rest) [] e = absurd (cc e)
part-none number (octet ∷ rest) (another ∷ others) e =
    go (octet == another) refl e (part-none (cond (is_feed octet) (suc number) number) rest others) where
      go : (same : Bool) → (octet == another) ≡ same → cond same (parting (cond (is_feed octet) (suc number) number) rest others) (Some number) ≡ None
          → (parting (cond (is_feed octet) (suc number) number) rest others ≡ None → rest ≡ others) → octet ∷ rest ≡ another ∷ others
      go true is e again =
          let first = eqb-true octet another is in
          let more = again e in
          λ i. first i ∷ more i
      go false is e again = absurd (cc e)

pub alone_is_same : AloneIsSame
alone_is_same text other e = part-none 1 text other (sym (parts 1 text other) ∙ e)

-- a text doesn't part from itself
pub parts-itself : (number : ℕ) (text : List ℕ) → parting number text text ≡ None
unfolding parting
parts-itself number [] = refl
parts-itself number (octet ∷ rest) =
    ap (λ (b : Bool). cond b (parting (cond (is_feed octet) (suc number) number) rest rest) (Some number)) (eq-eqb octet octet refl)
    ∙ parts-itself (cond (is_feed octet) (suc number) number) rest
