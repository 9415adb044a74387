-- The line `take`, and lines that ask several desks for what they ask a single one for.
use Rattle.std.proofs.Common.{◌≡◌, ◌∙◌, ℕ, ◌+◌, ◌-◌, ◌≤◌, ◌<◌, Bool, true, false, cond, ◌&&◌, ◌==◌, List, [], ◌∷◌, length, take, drop, nat_eq, codes, Option, Some, None, refl, sym, ap, subst, arith, nat_lt, inl, inr, if◌then◌else◌}
use Rattle.std.proofs.lemmas.List.{length-take-le}
use Rattle.std.proofs.lemmas.Slice.Eq.{bytes_eq-Decides}
use Rattle.std.specs.List.{starts_with}
use Rattle.std.specs.Str.{bytes_eq}
use Rattle.std.specs.Str.Lines.{strip_carriage_return}
use Rattle.run_model.specs.DeskLines as Spec
use Rattle.desk_lines.specs.Requests.{cut}
use Rattle.desk_lines.proofs.CutFacts.{words-some, words-one, words-more}

-- at most one octet is taken away
short-by : (l : List ℕ) (b : Bool) → length l ≤ length (cond b (take (length l - 1) l) l) + 1
short-by l true = let rest = length-take-le (length l - 1) l (omega arith) in omega arith
short-by l false = omega arith

-- what a line asks for by its text, and by whether it is too long
abbrev by_form : Bool → List ℕ → Bool → Spec.Request
by_form several text long = if Spec.is_comment text then Spec.Comment else if long then Spec.TooLong else Spec.request_in several text

-- the word `take` asks for the newest edition
pub taken : (line : List ℕ) → bytes_eq (strip_carriage_return line) (codes "take") ≡ true → Spec.Take ≡ Spec.request_of true line
unfolding Spec.request_of
taken line is =
    let text : strip_carriage_return line ≡ codes "take" = (bytes_eq-Decides (strip_carriage_return line) (codes "take")).0 is in
    let short : length line ≤ length (strip_carriage_return line) + 1 = short-by line _ in
    let four : length (strip_carriage_return line) ≡ 4 = ap length text in
    let few : nat_lt Spec.most_octets (length line) ≡ false = search arith in
    subst (λ t. Spec.Take ≡ by_form true t (nat_lt Spec.most_octets (length line))) (sym text)
    (subst (λ b. Spec.Take ≡ by_form true (codes "take") b) (sym few) refl)

-- a word that isn't `take` asks for the same
one-word : (text : List ℕ) → bytes_eq text (codes "take") ≡ false → Spec.word_request true (text ∷ []) ≡ Spec.word_request false (text ∷ [])
one-word text other =
    ap (λ b. if bytes_eq text (codes "save") then Some Spec.Save
    else if bytes_eq text (codes "drop") then Some Spec.Drop
    else if bytes_eq text (codes "go") then Some Spec.Go
    else if true && b then Some Spec.Take
    else None) other

more-words : (word : List ℕ) (words : List (List ℕ)) → 1 ≤ length words → Spec.word_request true (word ∷ words) ≡ Spec.word_request false (word ∷ words)
more-words word [] some = absurd (omega arith)
more-words word (next ∷ words) some = refl

-- words that aren't `take` alone ask for the same
same-words : (text : List ℕ) (o : Option (List ℕ × List ℕ)) → o ≡ cut Spec.is_blank text → bytes_eq text (codes "take") ≡ false → Spec.word_request true (Spec.words_of text) ≡ Spec.word_request false (Spec.words_of text)
same-words text None is other = subst (λ ws. Spec.word_request true ws ≡ Spec.word_request false ws) (sym (words-one text is)) (one-word text other)
same-words text (Some (word, rest)) is other =
    subst (λ ws. Spec.word_request true ws ≡ Spec.word_request false ws) (sym (words-more text word rest is)) (more-words word (Spec.words_of rest) (words-some rest))

-- each other line asks for what it asks a single desk for
pub not-taken : (line : List ℕ) → bytes_eq (strip_carriage_return line) (codes "take") ≡ false → Spec.request_of true line ≡ Spec.request_of false line
unfolding Spec.request_of
not-taken line other =
    let text = strip_carriage_return line in
    ap (λ words. if Spec.is_comment text then Spec.Comment
    else if nat_lt Spec.most_octets (length line) then Spec.TooLong
    else if starts_with nat_eq text (codes "put ") then Spec.table_request Spec.Put (drop 4 text)
    else if starts_with nat_eq text (codes "del ") then Spec.table_request Spec.Delete (drop 4 text)
    else Spec.or_bad_line words) (same-words text _ refl other)
