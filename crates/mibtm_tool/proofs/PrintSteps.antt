-- A text that was written whole was written in part.
use Rattle.std.proofs.Common.{◌≡◌, ℕ, List, Option, Result, Ok, Err, OnErr, length, take, [], sym, ap, refl, ◌∙◌, subst, append-nil, take_at}
use Rattle.std.specs.Io.KnownBytes.{Appends}
use Rattle.tm_io.specs.Octets.{AppendsPrefix}

part-same : (text : List ℕ) (old new : Option (List ℕ)) → Appends old new text → AppendsPrefix old new text
part-same text old new wrote = (length text, subst (Appends old new) (sym (ap (take (length text)) (sym (append-nil text)) ∙ take_at text [] (length text) refl)) wrote)

pub printed-part : {T E : Type 0} (r : Result T E) (text : List ℕ) (old mid new : Option (List ℕ)) → new ≡ mid → Appends old mid text → OnErr r (AppendsPrefix old new text)
printed-part (Ok done) text old mid new same wrote = tt
printed-part (Err failed) text old mid new same wrote = part-same text old new (subst (λ (x : Option (List ℕ)). Appends old x text) (sym same) wrote)
