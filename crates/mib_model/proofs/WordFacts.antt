-- Octets compared by machine words.
use Rattle.std.proofs.Common.{◌≡◌, ℕ, zero, suc, ◌≤◌, ◌<◌, ◌+◌, ◌-◌, List, [], ◌∷◌, ◌++◌, true, length, take, drop, get_or, nat_eq, refl, sym, ◌∙◌, ap, arith, length-take, length-drop, take-add}
use Rattle.std.specs.Bool.{Decides}
use Rattle.std.specs.Int.{from_le_bytes, w64}
use Rattle.std.specs.Str.{bytes_eq}
use Rattle.std.proofs.Math.Seq.{take-length}
use Rattle.std.proofs.lemmas.Bool.Decides.{same_from_decides, Decides-eqb}
use Rattle.std.proofs.lemmas.List.{take-append-drop}
use Rattle.std.proofs.lemmas.Nat.{le_bytes_8}
use Rattle.std.proofs.lemmas.Slice.Eq.{bytes_eq-Decides}

-- each number of a list is an octet
abbrev pub AreOctets : List ℕ → Type 0
AreOctets xs = (i : ℕ) → get_or xs i 0 < 256

AreOctets-drop : (n : ℕ) (xs : List ℕ) → AreOctets xs → AreOctets (drop n xs)
AreOctets-drop zero xs small = small
AreOctets-drop (suc n) [] small = small
AreOctets-drop (suc n) (x ∷ xs) small = AreOctets-drop n xs (λ i. small (suc i))

AreOctets-take : (n : ℕ) (xs : List ℕ) → AreOctets xs → AreOctets (take n xs)
AreOctets-take zero xs small i = omega arith
AreOctets-take (suc n) [] small i = small i
AreOctets-take (suc n) (x ∷ xs) small zero = small zero
AreOctets-take (suc n) (x ∷ xs) small (suc i) = AreOctets-take n xs (λ k. small (suc k)) i

-- the octets of a word are octets
pub AreOctets-word : (at : ℕ) (xs : List ℕ) → AreOctets xs → AreOctets (take 8 (drop at xs))
AreOctets-word at xs small = AreOctets-take 8 (drop at xs) (AreOctets-drop at xs small)

-- a word that lies in the list has eight octets
pub length-word : (at : ℕ) (xs : List ℕ) → at + 8 ≤ length xs → length (take 8 (drop at xs)) ≡ 8
length-word at xs inside = omega (arith, inside, length-take 8 (drop at xs), length-drop at xs)

-- eight octets are the same exactly where their numbers are
pub same-numbers : (xs ys : List ℕ) → length xs ≡ 8 → length ys ≡ 8 → AreOctets xs → AreOctets ys
    → nat_eq (from_le_bytes w64 xs) (from_le_bytes w64 ys) ≡ bytes_eq xs ys
same-numbers xs ys eight-xs eight-ys small-xs small-ys = same_from_decides _ _ by-number (bytes_eq-Decides xs ys) where
  by-number : Decides (nat_eq (from_le_bytes w64 xs) (from_le_bytes w64 ys)) (xs ≡ ys)
  by-number = (
    (λ told. sym (le_bytes_8 xs _ eight-xs small-xs refl) ∙ le_bytes_8 ys _ eight-ys small-ys ((Decides-eqb _ _).0 told)),
    (λ same. (Decides-eqb _ _).1 (ap (λ (l : List ℕ). from_le_bytes w64 l) same)),
  )

-- fronts of lists that are the same go on with a word that is the same
pub same-fronts : (n : ℕ) (a b : List ℕ) → take n a ≡ take n b → bytes_eq (take 8 (drop n a)) (take 8 (drop n b)) ≡ true → take (n + 8) a ≡ take (n + 8) b
same-fronts n a b front next =
    take-add n 8 a ∙ ap (λ (l : List ℕ). l ++ take 8 (drop n a)) front ∙ ap (λ (l : List ℕ). take n b ++ l) ((bytes_eq-Decides _ _).0 next) ∙ sym (take-add n 8 b)

-- lists whose fronts are the same are the same exactly where their rests are
pub same-rests : (n : ℕ) (a b : List ℕ) → take n a ≡ take n b → bytes_eq (drop n a) (drop n b) ≡ bytes_eq a b
same-rests n a b front = same_from_decides _ _ by-rest (bytes_eq-Decides a b) where
  by-rest : Decides (bytes_eq (drop n a) (drop n b)) (a ≡ b)
  by-rest = (
    (λ told. sym (take-append-drop n a) ∙ ap (λ (l : List ℕ). l ++ drop n a) front ∙ ap (λ (l : List ℕ). take n b ++ l) ((bytes_eq-Decides _ _).0 told) ∙ take-append-drop n b),
    (λ same. (bytes_eq-Decides _ _).1 (ap (λ (l : List ℕ). drop n l) same)),
  )

-- lists of one length whose fronts of that length are the same are the same
pub same-wholes : (n : ℕ) (a b : List ℕ) → take n a ≡ take n b → n ≡ length a → length a ≡ length b → bytes_eq a b ≡ true
same-wholes n a b front is long =
    let whole-a : take n a ≡ a = ap (λ (k : ℕ). take k a) is ∙ take-length a in
    let whole-b : take n b ≡ b = ap (λ (k : ℕ). take k b) (is ∙ long) ∙ take-length b in
    (bytes_eq-Decides a b).1 (sym whole-a ∙ front ∙ whole-b)

-- a slice up to the end is the rest
pub slice-to-end : (n : ℕ) (xs : List ℕ) → take (length xs - n) (drop n xs) ≡ drop n xs
slice-to-end n xs = ap (λ (k : ℕ). take k (drop n xs)) (sym (length-drop n xs)) ∙ take-length (drop n xs)
