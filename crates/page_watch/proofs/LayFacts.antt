-- Cells that are laid one after the other.
use Rattle.std.proofs.Common.{◌≡◌, ◌∙◌, ℕ, zero, suc, ◌+◌, ◌-◌, ◌%◌, slice_index, ◌<◌, ◌≤◌, List, [], ◌∷◌, ◌++◌, drop, get_or, length, map, replicate, set, take, refl, sym, ap, arith}
use Rattle.std.proofs.lemmas.List.{length-map, drop-replicate, replicate-append-replicate, take_all}
use Rattle.mib_model.specs.Kept.{Memory, empty_memory}
use Rattle.display_pages.specs.declared.page.Cell.{Cell}
use Rattle.display_pages.specs.declared.page.Page.{Page}
use Rattle.display_pages.specs.Pages.{cell_of, cells_of, first_page, no_cell, page}
use Rattle.page_board.specs.Sheets.{cells_in, page_in}
use Rattle.page_board.specs.Views.{no_page}

laid-one : (f : List ℕ → Cell) (names : List (List ℕ)) (d : List ℕ) (old : List Cell) (p : ℕ) → p < length names → p < length old
    → set (map f (take p names) ++ drop p old) p (f (get_or names p d)) ≡ map f (take (suc p) names) ++ drop (suc p) old
laid-one f [] d old p below inside = absurd (omega (arith, below))
laid-one f (n ∷ names) d [] p below inside = absurd (omega (arith, inside))
laid-one f (n ∷ names) d (x ∷ old) zero below inside = refl
laid-one f (n ∷ names) d (x ∷ old) (suc p) below inside = ap (λ (l : List Cell). f n ∷ l) (laid-one f names d old p (omega (arith, below)) (omega (arith, inside)))

-- the cell of the next name is laid behind those of the names before
pub laid-next : (f : List ℕ → Cell) (names : List (List ℕ)) (d : List ℕ) (cells old : List Cell) (p : ℕ) (c : Cell) → p < length names → p < length old
    → c ≡ f (get_or names p d) → cells ≡ map f (take p names) ++ drop p old → set cells p c ≡ map f (take (p + 1) names) ++ drop (p + 1) old
laid-next f names d cells old p c below inside is were =
    let next : suc p ≡ p + 1 = omega arith in
    (λ k. set (were k) p (is k)) ∙ (laid-one f names d old p below inside ∙ ap (λ (n : ℕ). map f (take n names) ++ drop n old) next)

-- the cells of all names are laid
pub laid-all : (f : List ℕ → Cell) (names : List (List ℕ)) (old : List Cell) (p : ℕ) → p ≡ length names
    → map f (take p names) ++ drop p old ≡ map f names ++ drop (length names) old
laid-all f names old p end = λ k. map f (whole k) ++ drop (end k) old
  where
    whole : take p names ≡ names
    whole = take_all p names (omega (arith, end))

-- where nothing is kept every cell is empty
pub empty-cells : (names : List (List ℕ)) → length names ≤ 64 → cells_of empty_memory names ≡ replicate 64 no_cell
empty-cells names few =
    let all : length names + (64 - length names) ≡ 64 = omega (arith, few) in
    ap (λ (l : List Cell). l ++ replicate (64 - length names) no_cell) (alike names)
    ∙ (replicate-append-replicate (length names) (64 - length names) no_cell ∙ ap (λ (n : ℕ). replicate n no_cell) all)
  where
    alike : (names : List (List ℕ)) → map (cell_of empty_memory) names ≡ replicate (length names) no_cell
    alike [] = refl
    alike (n ∷ names) = ap (λ (l : List Cell). no_cell ∷ l) (alike names)

-- cells past some are those past them in a list that begins with as many
pub past-laid : (xs ys : List Cell) (n : ℕ) → length xs ≡ n → drop n (xs ++ ys) ≡ ys
past-laid [] ys zero e = refl
past-laid [] ys (suc n) e = absurd (omega (arith, e))
past-laid (x ∷ xs) ys zero e = absurd (omega (arith, e))
past-laid (x ∷ xs) ys (suc n) e = past-laid xs ys n (omega (arith, e))

-- cells of names laid over old ones, of which those past the names were empty, are those of a page
pub laid-over : (memory : Memory) (names : List (List ℕ)) (old : List Cell) → drop (length names) old ≡ replicate (64 - length names) no_cell
    → map (cell_of memory) names ++ drop (length names) old ≡ cells_of memory names
laid-over memory names old blank = ap (λ (l : List Cell). map (cell_of memory) names ++ l) blank

-- and those past the names stay empty
pub blank-stays : (memory : Memory) (names : List (List ℕ)) (cells : List Cell) → cells ≡ cells_of memory names
    → drop (length names) cells ≡ replicate (64 - length names) no_cell
blank-stays memory names cells is =
    ap (λ (l : List Cell). drop (length names) l) is
    ∙ past-laid (map (cell_of memory) names) (replicate (64 - length names) no_cell) (length names) (length-map names (cell_of memory))

-- the page of no packet is the one before the first
pub empty-first : (names : List (List ℕ)) (p : Page) → length names ≤ 64 → p ≡ no_page → p ≡ first_page names
empty-first names p few is = is ∙ ap (λ (cells : List Cell). record { number = 0; edition = 1; cells = cells }) (sym (empty-cells names few))

-- its cells past the names are empty
pub empty-blank : (names : List (List ℕ)) (p : Page) → p ≡ no_page → drop (length names) p.cells ≡ replicate (64 - length names) no_cell
empty-blank names p is = ap (λ (q : Page). drop (length names) q.cells) is ∙ drop-replicate (length names) 64 no_cell

-- a sheet of which the head and then the cells were laid is the page of a packet
pub laid-page : (memory : Memory) (names : List (List ℕ)) (old head new : List ℕ) (number edition : ℕ)
    → drop (length names) (cells_in old) ≡ replicate (64 - length names) no_cell → (page_in head).number ≡ number → (page_in head).edition ≡ edition
    → cells_in head ≡ cells_in old → slice_index new 0 ≡ slice_index head 0 → slice_index new 1 ≡ slice_index head 1
    → cells_in new ≡ map (cell_of memory) names ++ drop (length names) (cells_in head) → page_in new ≡ page names number edition memory
laid-page memory names old head new number edition blank is_number is_edition same first second laid =
    let a = first ∙ is_number in
    let b = ap (λ (w : ℕ). w % 4294967296) second ∙ is_edition in
    let c = laid ∙ laid-over memory names (cells_in head) (ap (λ (l : List Cell). drop (length names) l) same ∙ blank) in
    λ k. record { number = a k; edition = b k; cells = c k }
