-- Plans in blocks, of which each but the last has so many. [This project's own.]
use Rattle.std.specs.Prelude.{◌≡◌, ◌≤◌, List, [], ◌∷◌, length}
use Rattle.param_plan.specs.declared.blocks.TheConstants.{BLOCK}

-- a block has as many items as a whole one
abbrev pub IsWhole : {X A : Type 0} → (X → List A) → X → Type 0
IsWhole f x = length (f x) ≡ BLOCK

-- each block but the last is whole, and that has no more
abbrev pub IsCut : {X A : Type 0} → (X → List A) → List X → Type 0
IsCut f [] = Unit {0}
IsCut f (x ∷ []) = length (f x) ≤ BLOCK
IsCut f (x ∷ y ∷ xs) = IsWhole f x × IsCut f (y ∷ xs)
