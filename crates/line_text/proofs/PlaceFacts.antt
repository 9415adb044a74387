-- Octets that are put at a place, and what is left of them.
use Rattle.std.proofs.Common.{◌≡◌, ℕ, ◌+◌, ◌-◌, ◌≤◌, List, ◌++◌, take, drop, length, sym, ap, ap₂, ◌∙◌, append_assoc, length-drop, arith}
use Rattle.std.proofs.Math.Seq.{take-append-add}
use Rattle.std.proofs.lemmas.List.{take-append-drop, take-append-le, length-take-le, take_all}

-- a part of the front
part_of_front : (xs : List ℕ) (k n : ℕ) → k ≤ n → n ≤ length xs → take k (take n xs) ≡ take k xs
part_of_front xs k n less some =
    let inside : k ≤ length (take n xs) = rw (length-take-le n xs some) less in
    sym (take-append-le k (take n xs) (drop n xs) inside) ∙ ap (take k) (take-append-drop n xs)

-- what is left of octets that were put at a place, once it is cut behind so many of them
pub cut_behind : (room before octets : List ℕ) (at end count : ℕ) → take end room ≡ before ++ octets → length before ≡ at → at + count ≤ end → end ≤ length room → take (at + count) room ≡ before ++ take count octets
cut_behind room before octets at end count is place fits inside =
    sym (part_of_front room (at + count) end fits inside) ∙ (rw (is, ← place) (take-append-add before octets count))

-- a text that is put by its first and its last octets
pub both_ends : (old one two text : List ℕ) (at n : ℕ) → take (at + n) one ≡ take at old ++ take n text
    → take (at + (length text - n) + n) two ≡ take (at + (length text - n)) one ++ take n (drop (length text - n) text)
    → length one ≡ length old → at + length text ≤ length old → n ≤ length text → length text ≤ n + n → take (at + length text) two ≡ take at old ++ text
both_ends old one two text at n first last kept fits some few =
    let rest : ℕ = length text - n in
    let place : at + rest + n ≡ at + length text = omega arith in
    let front : take (at + rest) one ≡ take at old ++ take rest text =
    cut_behind one (take at old) (take n text) at (at + n) rest first (length-take-le at old (omega arith)) (omega arith) (omega arith)
    ∙ ap (λ (xs : List ℕ). take at old ++ xs) (part_of_front text rest n (omega arith) some) in
    let all : take n (drop rest text) ≡ drop rest text = take_all n (drop rest text) (omega (arith, length-drop rest text)) in
    rw (← place, last, front, all, append_assoc, take-append-drop)

start : (n : ℕ) → n ≡ 0 + n
start n = omega arith

-- the first and the last octets of a text, which were put behind one another
pub joined_ends : (one two first last text : List ℕ) (n : ℕ) → take (0 + n) one ≡ first → take (n + n) two ≡ take n one ++ last → length two ≤ n + n
    → first ≡ take n (drop 0 text) → last ≡ take n (drop (length text - n) text) → n ≤ length text → two ≡ take n text ++ drop (length text - n) text
joined_ends one two first last text n one_is two_is fits first_is last_is some =
    let rest : ℕ = length text - n in
    let all : take n (drop rest text) ≡ drop rest text = take_all n (drop rest text) (omega (arith, length-drop rest text)) in
    let front : take n one ≡ take n text = ap (λ (k : ℕ). take k one) (start n) ∙ (one_is ∙ first_is) in
    sym (take_all (n + n) two fits) ∙ (two_is ∙ ap₂ (λ (a b : List ℕ). a ++ b) front (last_is ∙ all))

-- octets of which a part from a place on was written anew
pub window : (old line rest text : List ℕ) (used count : ℕ) → take count line ≡ text → count ≤ length line → used ≤ length old → take (used + count) (take used old ++ (line ++ rest)) ≡ take used old ++ text
window old line rest text used count is inside some =
    let place : length (take used old) ≡ used = length-take-le used old some in
    let behind : take count (line ++ rest) ≡ text = take-append-le count line rest inside ∙ is in
    ap (λ (k : ℕ). take (k + count) (take used old ++ (line ++ rest))) (sym place)
    ∙ (take-append-add (take used old) (line ++ rest) count ∙ ap (λ (xs : List ℕ). take used old ++ xs) behind)
