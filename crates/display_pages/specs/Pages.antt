-- The pages of a display: what is kept of chosen parameters after a packet, and its text. [This profile.]
use Rattle.std.specs.Prelude.{ℕ, ◌-◌, ℤ, List, ◌++◌, codes, decimal, length, map, replicate, Option, Some, None}
use Rattle.std.specs.Fmt.{signed_decimal}
use Rattle.std.specs.List.{flat_map, zip}
use Rattle.mib_model.specs.declared.check.Class.{Class}
use Rattle.mib_model.specs.AlarmTexts.{class_text}
use Rattle.mib_model.specs.Kept.{Memory, empty_memory}
use Rattle.display_pages.specs.declared.page.Cell.{Cell}
use Rattle.display_pages.specs.declared.page.Page.{Page}
use Rattle.display_pages.specs.declared.page.TheConstants.{MOST_CELLS}

-- a cell with nothing in it
abbrev pub no_cell : Cell
no_cell = record { raw = None; spoken = None }

-- the cell of a name
abbrev pub cell_of : Memory → List ℕ → Cell
cell_of memory name = record { raw = (memory name).latest; spoken = (memory name).spoken }

-- the cells of names, with empty ones behind them
abbrev pub cells_of : Memory → List (List ℕ) → List Cell
cells_of memory names = map (cell_of memory) names ++ replicate (MOST_CELLS - length names) no_cell

-- the page after a packet with this number and edition
abbrev pub page : List (List ℕ) → ℕ → ℕ → Memory → Page
page names number edition memory = record { number = number; edition = edition; cells = cells_of memory names }

-- the page before the first packet
abbrev pub first_page : List (List ℕ) → Page
first_page names = page names 0 1 empty_memory

-- a number, or a dash
abbrev pub raw_or_dash : Option ℤ → List ℕ
raw_or_dash None = codes "-"
raw_or_dash (Some n) = signed_decimal n

-- the word of a class, or a dash
abbrev pub class_or_dash : Option Class → List ℕ
class_or_dash None = codes "-"
class_or_dash (Some c) = class_text c

-- the line of a name and its cell
abbrev pub cell_text : List ℕ × Cell → List ℕ
cell_text named = codes "  " ++ named.0 ++ codes " " ++ raw_or_dash named.1.raw ++ codes " " ++ class_or_dash named.1.spoken ++ codes "\n"

-- the text of a page of names
abbrev pub page_text : List (List ℕ) → Page → List ℕ
page_text names p =
    codes "PAGE " ++ decimal p.number ++ codes " EDITION " ++ decimal p.edition ++ codes "\n" ++ flat_map cell_text (zip names p.cells)
