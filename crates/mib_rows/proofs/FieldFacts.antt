-- The cells of a record of `csv` against the fields of its line.
use Rattle.std.proofs.Common.{◌≡◌, ◌+◌, ℕ, zero, suc, List, [], ◌∷◌, drop, length, refl, ap, add-one, arith}
use Rattle.std.specs.Prelude.{unwrap_or, slice_get}
use Rattle.std.specs.Str.Lines.{strip_carriage_return}
use Rattle.csv.specs.Records.{field_at as cell_at}
use Rattle.mib_rows.specs.Left.{without_last_return}

cell-is : (cells : List (List ℕ)) (at : ℕ) → unwrap_or (cell_at cells at) [] ≡ unwrap_or (slice_get cells at) []
unfolding cell_at
cell-is [] at = refl
cell-is (cell ∷ cells) zero = refl
cell-is (cell ∷ cells) (suc at) = cell-is cells at

-- behind the cell in front
pub cell-behind : (cells : List (List ℕ)) (at : ℕ) → unwrap_or (cell_at cells (at + 1)) [] ≡ unwrap_or (slice_get (drop 1 cells) at) []
unfolding cell_at
cell-behind [] at = refl
cell-behind (cell ∷ cells) at = rw add-one (cell-is cells at)

-- the last field loses its CR, and no other one
pub cell-last : (cells : List (List ℕ)) (at : ℕ) → at + 1 ≡ length cells → strip_carriage_return (unwrap_or (cell_at cells at) []) ≡ unwrap_or (slice_get (without_last_return cells) at) []
unfolding cell_at
cell-last [] at last = absurd (omega arith)
cell-last (cell ∷ []) zero last = refl
cell-last (cell ∷ []) (suc at) last = absurd (omega arith)
cell-last (cell ∷ next ∷ cells) zero last = absurd (omega arith)
cell-last (cell ∷ next ∷ cells) (suc at) last = cell-last (next ∷ cells) at (omega arith)

pub cell-inner : (cells : List (List ℕ)) (at : ℕ) → (at + 1 ≡ length cells → ⊥) → unwrap_or (cell_at cells at) [] ≡ unwrap_or (slice_get (without_last_return cells) at) []
unfolding cell_at
cell-inner [] at inner = refl
cell-inner (cell ∷ []) zero inner = absurd (inner refl)
cell-inner (cell ∷ []) (suc at) inner = refl
cell-inner (cell ∷ next ∷ cells) zero inner = refl
cell-inner (cell ∷ next ∷ cells) (suc at) inner = cell-inner (next ∷ cells) at (λ last. inner (omega arith))

pub length-without_last_return : (cells : List (List ℕ)) → length (without_last_return cells) ≡ length cells
length-without_last_return [] = refl
length-without_last_return (cell ∷ []) = refl
length-without_last_return (cell ∷ next ∷ cells) = ap suc (length-without_last_return (next ∷ cells))
