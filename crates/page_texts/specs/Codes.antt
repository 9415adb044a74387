-- The exit statuses of a board, and the lines of its ends. [This profile.]
use Rattle.std.specs.Prelude.{ℕ, List, [], ◌++◌, codes, decimal, Option, Some, None}
use Rattle.run_model.specs.declared.code.Code.{Code}
use Rattle.run_model.specs.declared.code.Code.TheVariants as plain
use Rattle.run_model.specs.declared.code.Input.TheVariants as input
use Rattle.run_model.specs.Codes.{code_number}
use Rattle.run_model.specs.Faults.{code_line}
use Rattle.page_texts.specs.declared.code.BoardCode.{BoardCode}
use Rattle.page_texts.specs.declared.code.BoardCode.TheVariants as code
use Rattle.page_texts.specs.declared.code.BoardInput.TheVariants as board_input

-- the code of a live run that ends so too; none of an end that a board alone has
abbrev pub plain_code : BoardCode → Option Code
plain_code code.Ok = Some plain.Ok
plain_code (code.Usage misuse) = Some (plain.Usage misuse)
plain_code (code.BadMib fault) = Some (plain.BadMib fault)
plain_code (code.NoFile board_input.Feed) = Some (plain.NoFile input.Feed)
plain_code (code.NoFile board_input.Desk) = Some (plain.NoFile input.Desk)
plain_code (code.Cut octets) = Some (plain.Cut octets)
plain_code code.TablesFault = Some plain.TablesFault
plain_code code.FeedFault = Some plain.FeedFault
plain_code code.DeskFault = Some plain.DeskFault
plain_code code.OutFault = Some plain.OutFault
plain_code code.ReplyFault = Some plain.ReplyFault
plain_code code.Limit = Some plain.Limit
plain_code code.Want = Some plain.Want
plain_code other = None

-- the exit status of an end that a board alone has
abbrev pub own_number : BoardCode → ℕ
own_number (code.NoFile wanted) = 4
own_number code.ScreenFault = 13
own_number code.PageFault = 14
own_number (code.BadPage line) = 15
own_number other = 0

-- the exit status of a board
unfoldable pub board_number : BoardCode → ℕ
board_number found = elim (plain_code found) [ Some c ↦ code_number c | None ↦ own_number found ]

-- the line of an end that a board alone has
abbrev pub own_line : BoardCode → List ℕ
own_line (code.NoFile wanted) = codes "NOFILE PAGE"
own_line code.ScreenFault = codes "FAULT SCREEN"
own_line code.PageFault = codes "FAULT PAGE"
own_line (code.BadPage line) = codes "BADPAGE " ++ decimal line
own_line other = []

-- the line that is told of a board's end, without its LF; empty where all is well
unfoldable pub board_line : BoardCode → List ℕ
board_line found = elim (plain_code found) [ Some c ↦ code_line c | None ↦ own_line found ]
