-- How a text parts from octets that it has a front in common with.
use Rattle.std.proofs.Common.{◌≡◌, ◌≢◌, ℕ, zero, suc, ◌+◌, ◌-◌, ◌<◌, ◌≤◌, Bool, true, false, cond, List, [], ◌∷◌, ◌++◌, Some, None, length, take, drop, get_or, ltb, refl, sym, ap, ◌∙◌, arith}
use Rattle.std.specs.List.{count_by}
use Rattle.std.proofs.lemmas.Bool.{eq-eqb, ne_eqb, ltb-true, ltb-false}
use Rattle.std.proofs.lemmas.List.{drop-drop, drop-take, drop_all, length-drop, take-take}
use Rattle.std.proofs.lemmas.List.Sums.{sum_by-cons, sum_by-take-drop}
use Rattle.mib_model.specs.Lines.{is_feed}
use Rattle.tm_audit.specs.Comparing.{parting_with}
use Rattle.tm_audit.specs.TextLines.{parting}

apart-octets : (number octet other : ℕ) (rest others : List ℕ) → other ≢ octet → parting number (octet ∷ rest) (other ∷ others) ≡ Some number
unfolding parting
apart-octets number octet other rest others apart =
    ap (λ (b : Bool). cond b (parting (cond (is_feed octet) (suc number) number) rest others) (Some number)) (ne_eqb octet other (λ e. apart (sym e)))

same-octets : (number octet : ℕ) (rest others : List ℕ) → parting number (octet ∷ rest) (octet ∷ others) ≡ parting (cond (is_feed octet) (suc number) number) rest others
unfolding parting
same-octets number octet rest others =
    ap (λ (b : Bool). cond b (parting (cond (is_feed octet) (suc number) number) rest others) (Some number)) (eq-eqb octet octet refl)

-- a line more behind an LF
one-line : (number octet : ℕ) (rest : List ℕ) → cond (is_feed octet) (suc number) number + count_by is_feed rest ≡ number + count_by is_feed (octet ∷ rest)
one-line number octet rest = by (is_feed octet) (sum_by-cons (λ x. cond (is_feed x) 1 0) octet rest) where
  by : (feed : Bool) → count_by is_feed (octet ∷ rest) ≡ cond feed 1 0 + count_by is_feed rest → cond feed (suc number) number + count_by is_feed rest ≡ number + count_by is_feed (octet ∷ rest)
  by true e = omega (arith, e)
  by false e = omega (arith, e)

nothing-more : (number : ℕ) → number + 0 ≡ number
nothing-more number = omega arith

-- one octet that both have, in front of what they come to
same-first : (number d c : ℕ) (text piece : List ℕ) → d ≡ c → parting number (c ∷ piece) (d ∷ text) ≡ parting (cond (is_feed c) (suc number) number) piece text
same-first number d c text piece first = ap (λ (o : ℕ). parting number (c ∷ piece) (o ∷ text)) first ∙ same-octets number c piece text

one-more : (number d c : ℕ) (rest : List ℕ) → d ≡ c → cond (is_feed c) (suc number) number + count_by is_feed rest ≡ number + count_by is_feed (d ∷ rest)
one-more number d c rest first = one-line number c rest ∙ ap (λ (o : ℕ). number + count_by is_feed (o ∷ rest)) (sym first)

-- the octets aren't those of the text
pub parted-apart : (number k : ℕ) (text piece more : List ℕ) → take k text ≡ take k piece → k ≤ length text → k < length piece
    → (k < length text → get_or text k 0 ≢ get_or piece k 0) → parting number (piece ++ more) text ≡ Some (number + count_by is_feed (take k text))
unfolding parting
parted-apart number k text [] more front inside short apart = absurd (omega (arith, short))
parted-apart number zero [] (c ∷ piece) more front inside short apart = ap Some (sym (nothing-more number))
parted-apart number zero (d ∷ text) (c ∷ piece) more front inside short apart =
    apart-octets number c d (piece ++ more) text (apart (omega arith)) ∙ ap Some (sym (nothing-more number))
parted-apart number (suc k) [] (c ∷ piece) more front inside short apart = absurd (omega (arith, inside))
parted-apart number (suc k) (d ∷ text) (c ∷ piece) more front inside short apart =
    let first : d ≡ c = cc in
    let rest : take k text ≡ take k piece = cc in
    same-first number d c text (piece ++ more) first
    ∙ (parted-apart (cond (is_feed c) (suc number) number) k text piece more rest (omega (arith, inside)) (omega (arith, short)) (λ a. apart (omega (arith, a)))
    ∙ ap Some (one-more number d c (take k text) first))

-- the octets are those of the text
pub parted-on : (number k : ℕ) (text piece more : List ℕ) → take k text ≡ take k piece → k ≤ length text → k ≡ length piece
    → parting number (piece ++ more) text ≡ parting (number + count_by is_feed (take k text)) more (drop k text)
parted-on number zero text [] more front inside whole = ap (λ (n : ℕ). parting n more text) (sym (nothing-more number))
parted-on number zero text (c ∷ piece) more front inside whole = absurd (omega (arith, whole))
parted-on number (suc k) text [] more front inside whole = absurd (omega (arith, whole))
parted-on number (suc k) [] (c ∷ piece) more front inside whole = absurd (omega (arith, inside))
parted-on number (suc k) (d ∷ text) (c ∷ piece) more front inside whole =
    let first : d ≡ c = cc in
    let rest : take k text ≡ take k piece = cc in
    same-first number d c text (piece ++ more) first
    ∙ (parted-on (cond (is_feed c) (suc number) number) k text piece more rest (omega (arith, inside)) (omega (arith, whole))
    ∙ ap (λ (n : ℕ). parting n more (drop k text)) (one-more number d c (take k text) first))

-- the line behind more octets
line-on : (text : List ℕ) (at k : ℕ) → 1 + count_by is_feed (take (at + k) text) ≡ 1 + count_by is_feed (take at text) + count_by is_feed (take k (drop at text))
line-on text at k =
    let whole = sum_by-take-drop (λ x. cond (is_feed x) 1 0) (take (at + k) text) at in
    let first : take at (take (at + k) text) ≡ take at text = take-take at (at + k) text (omega arith) in
    let last : drop at (take (at + k) text) ≡ take k (drop at text) = drop-take at k text in
    let parts : count_by is_feed (take at text) + count_by is_feed (take k (drop at text)) ≡ count_by is_feed (take (at + k) text) =
    rw (first, last) at whole in
    omega (arith, parts)

-- the octets that are expected next, of which the text has so many
pub expects : (text piece more : List ℕ) (at k : ℕ) → take k (drop at text) ≡ take k piece → k ≤ length (drop at text) → k ≤ length piece
    → (k < length (drop at text) → k < length piece → get_or (drop at text) k 0 ≢ get_or piece k 0)
    → parting_with (record { text = text; at = at + k; is_apart = ltb k (length piece) }) more ≡ parting_with (record { text = text; at = at; is_apart = false }) (piece ++ more)
expects text piece more at k front inside too apart = by (ltb k (length piece)) refl where
  by : (short : Bool) → ltb k (length piece) ≡ short
      → parting_with (record { text = text; at = at + k; is_apart = short }) more ≡ parting (1 + count_by is_feed (take at text)) (piece ++ more) (drop at text)
  by true is =
      let short : k < length piece = ltb-true k (length piece) is in
      ap Some (line-on text at k) ∙ sym (parted-apart (1 + count_by is_feed (take at text)) k (drop at text) piece more front inside short (λ a. apart a short))
  by false is =
      let whole : k ≡ length piece = omega (arith, too, ltb-false k (length piece) is) in
      (λ i. parting (line-on text at k i) more (sym (drop-drop k at text) i))
      ∙ sym (parted-on (1 + count_by is_feed (take at text)) k (drop at text) piece more front inside whole)

-- where nothing more is expected
pub parts-at-end : (text : List ℕ) (at number : ℕ) → at < length text → parting number [] (drop at text) ≡ Some number
unfolding parting
parts-at-end text at number less = by (drop at text) (length-drop at text) where
  by : (rest : List ℕ) → length rest ≡ length text - at → parting number [] rest ≡ Some number
  by [] none = absurd (omega (arith, none, less))
  by (octet ∷ rest) some = refl

pub parts-nowhere : (text : List ℕ) (at number : ℕ) → length text ≤ at → parting number [] (drop at text) ≡ None
unfolding parting
parts-nowhere text at number past = ap (parting number []) (drop_all at text past)
