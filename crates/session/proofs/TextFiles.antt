-- As much of a file as is read.
use Rattle.std.proofs.Common.{◌≡◌, ◌≤◌, ℕ, List, [], length, take, Option, Some, None, IfSome, refl, sym, ap, ◌∙◌, arith, Bool, true, false, is_some, unwrap_or, min, length-take}
use Rattle.std.proofs.lemmas.List.{take_all}
use Rattle.session.specs.Sources.{Files, octets_of, part_read}

-- with a variable in place of the number, so that nothing counts up to it
part_read-by : (n : ℕ) (octets : List ℕ) → n ≡ 67108865 → take n octets ≡ part_read octets
unfolding part_read
part_read-by n octets is = ap (λ k. take k octets) is

pub part_read-all : (text : List ℕ) → length text ≤ 67108865 → part_read text ≡ text
part_read-all text few = go 67108865 text refl few
  where
    go : (n : ℕ) (xs : List ℕ) → n ≡ 67108865 → length xs ≤ n → part_read xs ≡ xs
    go n xs is fits = sym (part_read-by n xs is) ∙ take_all n xs fits

-- so much of what a source has left
pub as-part : (n : ℕ) (left : Option (List ℕ)) (text : List ℕ) → n ≡ 67108865 → IfSome left (λ octets. text ≡ take n octets) → IfSome left (λ octets. text ≡ part_read octets)
as-part n None text is taken = tt
as-part n (Some octets) text is taken = taken ∙ part_read-by n octets is

-- a file that isn't held has no octets
none-read : (found : Option (List ℕ)) → false ≡ is_some found → part_read (unwrap_or found []) ≡ []
none-read None is = part_read-all [] (omega arith)
none-read (Some octets) is = absurd (let bad : false ≡ true = is in cc bad)

pub not_held : (holds : Option Files) (name text : List ℕ) (held : Bool) → text ≡ [] → held ≡ false → IfSome holds (λ files. held ≡ is_some (files name))
    → IfSome holds (λ files. text ≡ part_read (octets_of files name))
not_held None name text held empty is none = tt
not_held (Some files) name text held empty is none = empty ∙ sym (none-read (files name) (sym is ∙ none))

pub length-part_read : (octets : List ℕ) → length (part_read octets) ≡ min 67108865 (length octets)
length-part_read octets = go 67108865 refl
  where
    go : (n : ℕ) → n ≡ 67108865 → length (part_read octets) ≡ min n (length octets)
    go n is = ap length (sym (part_read-by n octets is)) ∙ length-take n octets
