-- Lines that were given, and those that were handled of them.
use Rattle.std.proofs.Common.{◌≡◌, ℕ, ◌+◌, ◌-◌, ◌≤◌, false, cond, List, [], ◌∷◌, ◌++◌, length, Option, Some, None, IfSome, refl, sym, ap, ◌∙◌, length-append, arith, inl, inr}
use Rattle.std.specs.List.{count_by, slice_split}
use Rattle.std.specs.Io.KnownBytes.{Consumes}
use Rattle.std.proofs.lemmas.List.{length-take-le, nil_from_length}
use Rattle.std.proofs.lemmas.List.Elements.{All-head, All-tail}
use Rattle.std.proofs.lemmas.List.Splits.{length-slice_split}
use Rattle.std.proofs.lemmas.List.Sums.{sum_by-append, sum_by-cons}
use Rattle.desk_lines.specs.ToCome.{HasNoFeed, Reading, still}
use Rattle.desk_lines.specs.Given.{IsUpTo, lines_given}
use Rattle.desk_lines.specs.Gives.{IsTakenFor, TakesLine}
use Rattle.desk_lines.proofs.ToComeFacts.{still-end}
use Rattle.mib_model.specs.Lines.{is_feed}

-- ---- lines that were given whole

lines-count : (octets : List ℕ) → lines_given octets ≡ count_by is_feed octets
lines-count octets =
    let n = length-slice_split is_feed octets in
    length-take-le (length (slice_split is_feed octets) - 1) (slice_split is_feed octets) (omega arith) ∙ (omega (arith, n))

abbrev mark : ℕ → ℕ
mark octet = cond (is_feed octet) 1 0

count-none : (xs : List ℕ) → HasNoFeed xs → count_by is_feed xs ≡ 0
count-none [] none = refl
count-none (x ∷ xs) none =
    let head = ap {B = ℕ} (λ b. cond b 1 0) (All-head (λ octet. is_feed octet ≡ false) x xs none) in let tail = count-none xs (All-tail (λ octet. is_feed octet ≡ false) x xs none) in
    sum_by-cons mark x xs ∙ omega (arith, head, tail)

pub given-none : (xs : List ℕ) → HasNoFeed xs → lines_given xs ≡ 0
given-none xs none = lines-count xs ∙ count-none xs none

pub given-append : (xs ys : List ℕ) → lines_given (xs ++ ys) ≡ lines_given xs + lines_given ys
given-append xs ys = lines-count (xs ++ ys) ∙ sum_by-append mark xs ys ∙ sym (λ i. lines-count xs i + lines-count ys i)

-- a line with its LF is one
given-whole : (line : List ℕ) → HasNoFeed line → lines_given (line ++ 10 ∷ []) ≡ 1
given-whole line none =
    let all = given-append line (10 ∷ []) in let front = given-none line none in let feed : lines_given (10 ∷ []) ≡ 1 = lines-count (10 ∷ []) in omega (arith, all, front, feed)

-- the octets of one line end it at most once
pub given-line : (line taken : List ℕ) (new : Option (List ℕ)) → HasNoFeed line → IsTakenFor line taken new → lines_given taken ≤ 1
given-line line taken new none (inl is) = let one = ap lines_given is ∙ given-whole line none in omega (arith, one)
given-line line taken new none (inr is) = let all = ap lines_given is.0 ∙ given-none line none in omega (arith, all)

-- ---- lines that were handled

pub upto-none : (left : Option (List ℕ)) → IfSome left (λ l. IsUpTo [] left [])
upto-none None = tt
upto-none (Some l) = inl (omega arith)

-- nothing is left behind the end
end-behind : (place behind taken : List ℕ) → place ≡ taken ++ behind → place ≡ [] → behind ≡ []
end-behind place behind taken is end = nil_from_length behind (omega (arith, ap length is, ap length end, length-append taken behind))

-- what is taken behind lines, and gives none
pub upto-part : (left place behind : Option (List ℕ)) (given part : List ℕ) (handled : List (List ℕ)) → Consumes left place given → Consumes place behind part
    → IfSome left (λ l. IsUpTo given place handled) → IfSome left (λ l. IsUpTo (given ++ part) behind handled)
upto-part None place behind given part handled taken more upto = tt
upto-part (Some l) None behind given part handled taken more upto = absurd taken
upto-part (Some l) (Some p) None given part handled taken more upto = absurd more
upto-part (Some l) (Some p) (Some b) given part handled taken more (inl few) = inl (omega (arith, given-append given part, few))
upto-part (Some l) (Some p) (Some b) given part handled taken more (inr (few, end)) = inr (omega (arith, given-append given part, few), end-behind p b part more end)

-- lines behind others: none, where those had come to the script's end
pub upto-both : (mid : Reading) (left place behind : Option (List ℕ)) (given further : List ℕ) (handled more others : List (List ℕ)) → Consumes left place given → Consumes place behind further
    → IfSome place (λ l. still mid l ≡ more ++ others) → IfSome left (λ l. IsUpTo given place handled) → IfSome place (λ l. IsUpTo further behind more)
    → IfSome left (λ l. IsUpTo (given ++ further) behind (handled ++ more))
upto-both mid None place behind given further handled more others taken rest parted upto next = tt
upto-both mid (Some l) None behind given further handled more others taken rest parted upto next = absurd taken
upto-both mid (Some l) (Some p) None given further handled more others taken rest parted upto next = absurd rest
upto-both mid (Some l) (Some p) (Some b) given further handled more others taken rest parted (inl few) (inl next) =
    inl (omega (arith, given-append given further, few, next, length-append handled more))
upto-both mid (Some l) (Some p) (Some b) given further handled more others taken rest parted (inl few) (inr (next, end)) =
    inr (omega (arith, given-append given further, few, next, length-append handled more), end)
upto-both mid (Some l) (Some p) (Some b) given further handled more others taken rest parted (inr (few, end)) next =
    let none = ap (λ (ls : List (List ℕ)). length ls) (sym (still-end mid) ∙ ap (still mid) (sym end) ∙ parted) in
    inr (omega (arith, given-append given further, few, none, length-append more others, length-append handled more), end-behind p b further rest end)

-- one line
upto-line : (line taken : List ℕ) (behind : Option (List ℕ)) → HasNoFeed line → IsTakenFor line taken behind → IsUpTo taken behind (line ∷ [])
upto-line line taken behind none (inl is) = let one = ap lines_given is ∙ given-whole line none in inl (omega (arith, one))
upto-line line taken behind none (inr (is, end)) = inr (omega arith, end)

-- a line behind others
pub upto-more : (was now : Reading) (left place behind : Option (List ℕ)) (given line : List ℕ) (handled : List (List ℕ)) → Consumes left place given → (t : TakesLine was now place behind line)
    → IfSome left (λ l. IsUpTo given place handled) → IfSome left (λ l. IsUpTo (given ++ t.taken) behind (handled ++ line ∷ []))
upto-more was now None place behind given line handled taken t upto = tt
upto-more was now (Some l) None behind given line handled taken t upto = absurd taken
upto-more was now (Some l) (Some p) None given line handled taken t upto = absurd t.consumed
upto-more was now (Some l) (Some p) (Some b) given line handled taken t upto =
    upto-both was (Some l) (Some p) (Some b) given t.taken handled (line ∷ []) (still now b) taken t.consumed t.first upto (upto-line line t.taken (Some b) t.no_feed t.is_taken)
