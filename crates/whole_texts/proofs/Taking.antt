-- What was taken of a source.
use Rattle.std.proofs.Common.{◌≡◌, ◌≤◌, ℕ, ◌+◌, List, [], ◌++◌, length, take, Option, Some, None, IfSome, sym, ap, ◌∙◌, append-nil, subst, arith, length-append}
use Rattle.std.proofs.lemmas.List.{take_all, take_at}
use Rattle.std.proofs.KnownBytes.{Consumes-trans}
use Rattle.std.specs.Io.KnownBytes.{Consumes, IsAtEnd}
use Rattle.whole_texts.specs.Parts.{ConsumesAtMost}

-- up to its end
pub read-to-end : (most : ℕ) (old new : Option (List ℕ)) (text : List ℕ) → Consumes old new text → IsAtEnd new → length text ≤ most
    → IfSome old (λ octets. text ≡ take most octets)
read-to-end most None new text taken end few = tt
read-to-end most (Some octets) None text taken end few = absurd taken
read-to-end most (Some octets) (Some left) text taken end few =
    let same : octets ≡ text = taken ∙ ap (λ l. text ++ l) end ∙ append-nil text in sym (ap (take most) same ∙ take_all most text few)

-- as far as is read
pub read-full : (most : ℕ) (old new : Option (List ℕ)) (text : List ℕ) → Consumes old new text → length text ≡ most → IfSome old (λ octets. text ≡ take most octets)
read-full most None new text taken full = tt
read-full most (Some octets) None text taken full = absurd taken
read-full most (Some octets) (Some left) text taken full = sym (ap (take most) taken ∙ take_at text left most full)

-- no octet more
pub taken-none : (old mid new : Option (List ℕ)) (text : List ℕ) → Consumes old mid text → Consumes mid new [] → Consumes old new text
taken-none old mid new text taken none = subst (Consumes old new) (append-nil text) (Consumes-trans old mid new text [] taken none)

-- a further piece, within what may be read
pub taken-more : (most : ℕ) (old mid new : Option (List ℕ)) (text piece : List ℕ) → Consumes old mid text → Consumes mid new piece → length text + length piece ≤ most → ConsumesAtMost most old new
taken-more most old mid new text piece taken more few = (text ++ piece, omega (arith, few, length-append text piece), Consumes-trans old mid new text piece taken more)
