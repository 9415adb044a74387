-- Words of a sheet that change, and its cells.
use Rattle.std.proofs.Common.{◌≡◌, ◌≢◌, ◌∙◌, ℕ, zero, suc, inl, inr, ◌+◌, ◌*◌, ◌/◌, ◌%◌, ◌<◌, ◌≤◌, ◌⊎◌, List, length, get_or, map, set, slice_index, refl, sym, ap, ⊎_elim, arith}
use Rattle.std.specs.List.{range_with_len}
use Rattle.std.proofs.lemmas.List.{ext_get_or, get_or-set_same, get_or-set_other, length-set}
use Rattle.std.proofs.lemmas.List.FromFn.{get_or-map-range_with_len, length-map-range_with_len}
use Rattle.display_pages.specs.declared.page.Cell.{Cell}
use Rattle.display_pages.specs.Pages.{no_cell}
use Rattle.page_board.specs.Sheets.{cell_at, cell_marked, cells_in, class_marked, raw_marked}

-- two places are the same or not
same-or-not : (i p : ℕ) → (i ≡ p) ⊎ (i ≢ p)
same-or-not zero zero = inl refl
same-or-not zero (suc p) = inr (λ e. omega (arith, e))
same-or-not (suc i) zero = inr (λ e. omega (arith, e))
same-or-not (suc i) (suc p) = ⊎_elim (λ e. inl (ap suc e)) (λ n. inr (λ e. n (omega (arith, e)))) (same-or-not i p)

-- the cells stay where the words from the third on do
pub cells-stay : (s t : List ℕ) → ((j : ℕ) → 2 ≤ j → slice_index t j ≡ slice_index s j) → cells_in t ≡ cells_in s
cells-stay s t same = λ k. map (λ (i : ℕ). cell_marked (same (2 * i + 2) (omega arith) k) (same (2 * i + 3) (omega arith) k)) (range_with_len 0 64)

-- the number and the edition are no part of the cells
pub head-beside : (s : List ℕ) (number edition : ℕ) → cells_in (set (set s 0 number) 1 edition) ≡ cells_in s
head-beside s number edition =
    cells-stay s (set (set s 0 number) 1 edition)
    (λ j far. get_or-set_other (set s 0 number) 1 j edition 0 (λ e. omega (arith, e)) ∙ get_or-set_other s 0 j number 0 (λ e. omega (arith, e)))

-- the cell at a place of a sheet is that of its list
cell-in : (s : List ℕ) (i : ℕ) → i < 64 → get_or (cells_in s) i no_cell ≡ cell_at s i
cell-in s i below = get_or-map-range_with_len (cell_at s) 0 64 i i no_cell below (omega arith)

-- the two words of a place are laid
pub cell-laid : (s : List ℕ) (p bits marks : ℕ) (c : Cell) → p < 64 → length s ≡ 130 → cell_marked bits marks ≡ c
    → cells_in (set (set s (2 * p + 2) bits) (2 * p + 3) marks) ≡ set (cells_in s) p c
cell-laid s p bits marks c below long is =
    ext_get_or no_cell (cells_in t) (set (cells_in s) p c)
    (length-map-range_with_len (cell_at t) 0 64 ∙ sym (length-set (cells_in s) p c ∙ length-map-range_with_len (cell_at s) 0 64)) each
  where
    one : List ℕ
    one = set s (2 * p + 2) bits

    t : List ℕ
    t = set one (2 * p + 3) marks

    long-one : length one ≡ 130
    long-one = length-set s (2 * p + 2) bits ∙ long

    low : slice_index t (2 * p + 2) ≡ bits
    low = get_or-set_other one (2 * p + 3) (2 * p + 2) marks 0 (λ e. omega (arith, e)) ∙ get_or-set_same s (2 * p + 2) bits 0 (omega (arith, below, long))

    high : slice_index t (2 * p + 3) ≡ marks
    high = get_or-set_same one (2 * p + 3) marks 0 (omega (arith, below, long-one))

    here : cell_at t p ≡ c
    here = (λ k. cell_marked (low k) (high k)) ∙ is

    there : (i : ℕ) → i ≢ p → cell_at t i ≡ cell_at s i
    there i apart =
        let a : slice_index t (2 * i + 2) ≡ slice_index s (2 * i + 2) = get_or-set_other one (2 * p + 3) (2 * i + 2) marks 0 (λ e. omega (arith, e))
        ∙ get_or-set_other s (2 * p + 2) (2 * i + 2) bits 0 (λ e. apart (omega (arith, e))) in
        let b : slice_index t (2 * i + 3) ≡ slice_index s (2 * i + 3) = get_or-set_other one (2 * p + 3) (2 * i + 3) marks 0 (λ e. apart (omega (arith, e)))
        ∙ get_or-set_other s (2 * p + 2) (2 * i + 3) bits 0 (λ e. omega (arith, e)) in λ k. cell_marked (a k) (b k)

    each : (i : ℕ) → i < length (cells_in t) → get_or (cells_in t) i no_cell ≡ get_or (set (cells_in s) p c) i no_cell
    each i inside =
        let under : i < 64 = let l = length-map-range_with_len (cell_at t) 0 64 in omega (arith, inside, l) in
        ⊎_elim (λ (e : i ≡ p). cell-in t i under ∙ (ap (cell_at t) e ∙ (here ∙ sym (ap (λ (j : ℕ). get_or (set (cells_in s) p c) j no_cell) e ∙ get_or-set_same (cells_in s) p c no_cell (let l = length-map-range_with_len (cell_at s) 0 64 in omega (arith, below, l))))))
        (λ (e : i ≢ p). cell-in t i under ∙ (there i e ∙ (sym (cell-in s i under) ∙ sym (get_or-set_other (cells_in s) p i c no_cell e))))
        (same-or-not i p)

-- cells that are those of a sheet, one by one, are its cells
pub cells-are : (s : List ℕ) (cells : List Cell) → length cells ≡ 64 → ((i : ℕ) → i < 64 → get_or cells i no_cell ≡ cell_at s i) → cells ≡ cells_in s
cells-are s cells long each =
    ext_get_or no_cell cells (cells_in s) (long ∙ sym (length-map-range_with_len (cell_at s) 0 64))
    (λ i inside. let under : i < 64 = omega (arith, inside, long) in each i under ∙ sym (cell-in s i under))

-- one cell more is that of a sheet
pub cell-set : (s : List ℕ) (cells : List Cell) (p : ℕ) (x : Cell) → length cells ≡ 64 → p < 64 → x ≡ cell_at s p
    → ((i : ℕ) → i < p → get_or cells i no_cell ≡ cell_at s i) → (i : ℕ) → i < p + 1 → get_or (set cells p x) i no_cell ≡ cell_at s i
cell-set s cells p x long below is done i under =
    ⊎_elim (λ (e : i ≡ p). ap (λ (j : ℕ). get_or (set cells p x) j no_cell) e ∙ (get_or-set_same cells p x no_cell (omega (arith, below, long)) ∙ (is ∙ sym (ap (cell_at s) e))))
    (λ (e : i ≢ p). get_or-set_other cells p i x no_cell e ∙ done i (omega (arith, under, e))) (same-or-not i p)

-- marks that are laid together are read apart
pub marks-apart : (bits mark class : ℕ) (c : Cell) → class < 8 → raw_marked mark bits ≡ c.raw → class_marked class ≡ c.spoken → cell_marked bits (8 * mark + class) ≡ c
marks-apart bits mark class c below raw spoken =
    let high : (8 * mark + class) / 8 ≡ mark = omega (arith, below) in
    let low : (8 * mark + class) % 8 ≡ class = omega (arith, below) in
    let a = ap (λ (m : ℕ). raw_marked m bits) high ∙ raw in
    let b = ap class_marked low ∙ spoken in λ k. record { raw = a k; spoken = b k }
