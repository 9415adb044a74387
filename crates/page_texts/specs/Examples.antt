-- Files of names, and the lines and numbers of a board's ends. [This profile.]
use Rattle.std.specs.Prelude.{◌≡◌, [], codes, Some, None}
use Rattle.run_model.specs.declared.code.Misuse.TheVariants as misuse
use Rattle.page_texts.specs.declared.code.BoardCode.TheVariants as code
use Rattle.page_texts.specs.declared.code.BoardInput.TheVariants as input
use Rattle.page_texts.specs.Codes.{board_line, board_number}
use Rattle.page_texts.specs.PageFiles.{bad_line}

-- a name for each line is accepted; lines are counted without the empty ones
pub record PageFileExamples : Type 0 where
  pub empty : bad_line [] ≡ None
  pub two : bad_line (codes "T1\nNOPE\n") ≡ None
  pub unended : bad_line (codes "\nT1\r\n\nNOPE") ≡ None
  pub twice : bad_line (codes "T1\nT1\n") ≡ Some 2
  pub later : bad_line (codes "T1\n\nNOPE\r\nT1") ≡ Some 3
  pub spaced : bad_line (codes "T1\n NOPE\n") ≡ Some 2
  pub returned : bad_line (codes "T1\r\r\n") ≡ Some 1

-- the ends that a board alone has, and two that others have too
pub record EndExamples : Type 0 where
  pub bad_page : board_line (code.BadPage 2) ≡ codes "BADPAGE 2"
  pub no_page : board_line (code.NoFile input.Page) ≡ codes "NOFILE PAGE"
  pub no_desk : board_line (code.NoFile input.Desk) ≡ codes "NOFILE DESK"
  pub page : board_line code.PageFault ≡ codes "FAULT PAGE"
  pub screen : board_line code.ScreenFault ≡ codes "FAULT SCREEN"
  pub command : board_line (code.Usage misuse.Command) ≡ codes "USAGE COMMAND"
  pub quiet : board_line code.Ok ≡ []
  pub bad_page_number : board_number (code.BadPage 2) ≡ 15
  pub no_page_number : board_number (code.NoFile input.Page) ≡ 4
  pub page_number : board_number code.PageFault ≡ 14
  pub screen_number : board_number code.ScreenFault ≡ 13
  pub cut_number : board_number (code.Cut 11) ≡ 5
  pub ok_number : board_number code.Ok ≡ 0
