-- The file of a display's names: a name in each line. [This profile.]
use Rattle.std.specs.Prelude.{◌≡◌, ℕ, ◌+◌, Bool, List, [], ◌∷◌, ◌++◌, length, nat_lt, not, ◌&&◌, Option, Some, None, ⊤, if◌then◌else◌}
use Rattle.std.specs.List.{list_any}
use Rattle.std.specs.Str.{bytes_eq}
use Rattle.display_pages.specs.declared.page.TheConstants.{MOST_CELLS}
use Rattle.mib_model.specs.Lines.{lines}
use Rattle.mib_model.specs.Names.{is_name}
use Rattle.page_texts.specs.declared.page_file.PageFileFault.{PageFileFault}
use Rattle.page_texts.specs.declared.page_file.PageFileFault.TheVariants as fault
use Rattle.page_texts.specs.declared.page_file.TheConstants.{PAGE_FILE_MOST}

-- a line may stand behind these: it is a name and none of them, and they are fewer than a page shows
abbrev pub may_follow : List (List ℕ) → List ℕ → Bool
may_follow before line = is_name line && not (list_any (λ other. bytes_eq other line) before) && nat_lt (length before) MOST_CELLS

-- the number, counted from 1, of the first line that may not stand behind those before it
abbrev pub first_bad : List (List ℕ) → List (List ℕ) → Option ℕ
first_bad before [] = None
first_bad before (line ∷ rest) = if may_follow before line then first_bad (before ++ line ∷ []) rest else Some (length before + 1)

-- the number of the line for which a file is refused, if it is, and 0 where it has too many octets
unfoldable pub bad_line : List ℕ → Option ℕ
bad_line text = if nat_lt PAGE_FILE_MOST (length text) then Some 0 else first_bad [] (lines text)

-- the line that is told is that for which the file is refused; want of memory says nothing of it
abbrev pub Refuses : PageFileFault → Option ℕ → Type 0
Refuses (fault.Line line) bad = bad ≡ Some line
Refuses fault.Memory bad = ⊤
