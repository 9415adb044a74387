-- The file of the names of a page, as it is held and read. [This profile.]
use Rattle.std.specs.Prelude.{◌≡◌, ℕ, ◌+◌, List, take, Option, None, Some, IsSomeAnd, ⊤}
use Rattle.mib_model.specs.Lines.{lines}
use Rattle.page_texts.specs.PageFiles.{bad_line}
use Rattle.page_texts.specs.declared.code.BoardCode.{BoardCode}
use Rattle.page_texts.specs.declared.code.BoardCode.TheVariants as code
use Rattle.page_texts.specs.declared.code.BoardInput.TheVariants as input
use Rattle.page_texts.specs.declared.page_file.TheConstants.{PAGE_FILE_MOST}
use Rattle.tm_io.specs.Causes.{HasRisen}
use Rattle.whole_texts.specs.declared.text_fault.TextFault.{TextFault}
use Rattle.whole_texts.specs.declared.text_fault.TextFault.TheVariants as texts

-- as much of a file as is read: one octet more than it may have
unfoldable pub page_part : List ℕ → List ℕ
page_part octets = take (PAGE_FILE_MOST + 1) octets

-- no line of a file is refused, and its lines are these names
abbrev pub IsPageOf : List (List ℕ) → List ℕ → Type 0
IsPageOf names text = (bad_line text ≡ None) × (names ≡ lines text)

-- the end of a board for which a text wasn't read
abbrev pub stop_code : TextFault → BoardCode
stop_code texts.Failed = code.PageFault
stop_code texts.Memory = code.Want

-- with what reading a file may end: it failed, or memory ran out
abbrev pub IsReadStop : BoardCode → Type 0
IsReadStop code.PageFault = ⊤
IsReadStop code.Want = ⊤
IsReadStop other = ⊥

-- the line that is told is that for which a text is refused; want of memory says nothing of it
abbrev pub RefusesText : BoardCode → List ℕ → Type 0
RefusesText (code.BadPage line) text = bad_line text ≡ Some line
RefusesText code.Want text = ⊤
RefusesText other text = ⊥

-- a file isn't there, or its text is refused; a fault and want of memory say nothing of it
abbrev pub RefusesFile : BoardCode → Option (List ℕ) → Type 0
RefusesFile (code.NoFile input.Page) found = found ≡ None
RefusesFile (code.BadPage line) found = IsSomeAnd found (λ text. bad_line text ≡ Some line)
RefusesFile code.PageFault found = ⊤
RefusesFile code.Want found = ⊤
RefusesFile other found = ⊥

-- the count of the shelf rose where it failed, and else stands; no other end comes of a file of names
abbrev pub HasPageCause : BoardCode → ℕ → ℕ → Type 0
HasPageCause code.PageFault before now = HasRisen before now
HasPageCause (code.NoFile input.Page) before now = now ≡ before
HasPageCause (code.BadPage line) before now = now ≡ before
HasPageCause code.Want before now = now ≡ before
HasPageCause other before now = ⊥
