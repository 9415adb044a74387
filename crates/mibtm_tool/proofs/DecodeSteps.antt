-- What is said of a feed that was turned to.
use Rattle.std.proofs.Common.{◌≡◌, ℕ, List, Bool, true, false, Option, Some, None, IfSome, IsSomeAnd, is_some, refl, sym, ◌∙◌, subst}
use Rattle.session.specs.Sources.{Files}

-- what is said of the octets that are left is said of those of the file that was turned to
pub fed : (P : Option (List ℕ) → Type 0) (holds : Option Files) (name : List ℕ) (held : Bool) (start : Option (List ℕ)) → held ≡ true
    → IfSome holds (λ files. held ≡ is_some (files name)) → IfSome holds (λ files. IfSome (files name) (λ octets. start ≡ Some octets))
    → P start → IfSome holds (λ files. IsSomeAnd (files name) (λ octets. P (Some octets)))
fed P None name held start is told left said = tt
fed P (Some files) name held start is told left said = found (files name) (sym is ∙ told) left
  where
    found : (file : Option (List ℕ)) → true ≡ is_some file → IfSome file (λ octets. start ≡ Some octets) → IsSomeAnd file (λ octets. P (Some octets))
    found None there is = absurd (let bad : true ≡ false = there in cc bad)
    found (Some octets) there is = subst P is said

-- what a shelf has left that was turned to a file is that file, where it tells it
pub stood_at : (holds : Option Files) (name : List ℕ) (held : Bool) (start : Option (List ℕ)) → held ≡ true → IfSome holds (λ files. held ≡ is_some (files name))
    → IfSome holds (λ files. IfSome (files name) (λ octets. start ≡ Some octets)) → IfSome holds (λ files. IsSomeAnd (files name) (λ octets. start ≡ Some octets))
stood_at holds name held start is told left = fed (λ at. start ≡ at) holds name held start is told left refl
