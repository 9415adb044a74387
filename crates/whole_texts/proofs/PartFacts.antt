-- How much was read of a file.
use Rattle.std.proofs.Common.{◌≡◌, ℕ, Bool, true, false, List, Option, Some, None, Result, Ok, Err, IfSome, inr, is_some, subst, sym, ◌∙◌}
use Rattle.whole_texts.specs.Parts.{ConsumesAtMost, EndsInPart, ReadsPart}

-- a part of what a shelf has left that stands at the start of a file is one of the file
pub part-of-file : (most : ℕ) (holds : Option (List ℕ → Option (List ℕ))) (name : List ℕ) (start left : Option (List ℕ))
    → IfSome holds (λ files. IfSome (files name) (λ octets. start ≡ Some octets)) → ConsumesAtMost most start left → ReadsPart most holds name left
part-of-file most None name start left stands part = tt
part-of-file most (Some files) name start left stands part = go (files name) stands where
  go : (found : Option (List ℕ)) → IfSome found (λ octets. start ≡ Some octets) → IfSome found (λ octets. ConsumesAtMost most (Some octets) left)
  go None is = tt
  go (Some octets) is = subst (λ (s : Option (List ℕ)). ConsumesAtMost most s left) is part

-- of a file that isn't held nothing is said
pub part-of-none : (most : ℕ) (holds : Option (List ℕ → Option (List ℕ))) (name : List ℕ) (held : Bool) (left : Option (List ℕ))
    → held ≡ false → IfSome holds (λ files. held ≡ is_some (files name)) → ReadsPart most holds name left
part-of-none most None name held left is told = tt
part-of-none most (Some files) name held left is told = go (files name) (sym is ∙ told) where
  go : (found : Option (List ℕ)) → false ≡ is_some found → IfSome found (λ octets. ConsumesAtMost most (Some octets) left)
  go None none = tt
  go (Some octets) some = absurd (let bad : false ≡ true = some in cc bad)

-- a part that was read is so behind each answer
pub ends-in-part : {T E : Type 0} (result : Result T E) (most : ℕ) (holds : Option (List ℕ → Option (List ℕ))) (name : List ℕ) (left : Option (List ℕ)) (before now : ℕ)
    → ReadsPart most holds name left → EndsInPart result most holds name left before now
ends-in-part (Ok made) most holds name left before now part = part
ends-in-part (Err fault) most holds name left before now part = inr part
