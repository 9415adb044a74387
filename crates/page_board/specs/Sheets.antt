-- How a page lies in the words of a sheet, which threads share. [This project's own form.]
-- Word 0 is its number and word 1 its edition; then each cell has two: the last 64 bits of its number, and its marks.
use Rattle.std.specs.Prelude.{ℕ, ◌+◌, ◌*◌, ◌/◌, ◌%◌, ℤ, ◌-ℤ◌, ◌==◌, List, map, pos, slice_index, Option, Some, None, if◌then◌else◌}
use Rattle.std.specs.List.{range_with_len}
use Rattle.mib_model.specs.declared.check.Class.{Class}
use Rattle.mib_model.specs.declared.check.Class.TheVariants.{Nominal, Hard, Status, Delta, Soft}
use Rattle.display_pages.specs.declared.page.Cell.{Cell}
use Rattle.display_pages.specs.declared.page.Page.{Page}
use Rattle.display_pages.specs.declared.page.TheConstants.{MOST_CELLS}

-- the class of a mark
abbrev pub class_marked : ℕ → Option Class
class_marked mark =
    if mark == 1 then Some Hard else if mark == 2 then Some Status else if mark == 3 then Some Delta else if mark == 4 then Some Soft
    else if mark == 5 then Some Nominal else None

-- the number of these last 64 bits, by a mark that tells whether there is one and whether it is below zero
abbrev pub raw_marked : ℕ → ℕ → Option ℤ
raw_marked mark bits = if mark == 1 then Some (pos bits) else if mark == 2 then Some (pos bits -ℤ pos 18446744073709551616) else None

-- the cell of these bits and marks
abbrev pub cell_marked : ℕ → ℕ → Cell
cell_marked bits marks = record { raw = raw_marked (marks / 8) bits; spoken = class_marked (marks % 8) }

-- the cell at a place of a sheet
abbrev pub cell_at : List ℕ → ℕ → Cell
cell_at sheet place = cell_marked (slice_index sheet (2 * place + 2)) (slice_index sheet (2 * place + 3))

-- the cells of a sheet
abbrev pub cells_in : List ℕ → List Cell
cells_in sheet = map (cell_at sheet) (range_with_len 0 MOST_CELLS)

-- the page of a sheet
abbrev pub page_in : List ℕ → Page
page_in sheet = record { number = slice_index sheet 0; edition = slice_index sheet 1 % 4294967296; cells = cells_in sheet }
