-- The worked examples, computed.
use Rattle.std.proofs.Common.{refl}
use Rattle.std.specs.Fmt.{digits}
use Rattle.run_model.specs.Faults.{code_line}
use Rattle.mib_model.specs.Lines.{lines_of}
use Rattle.page_texts.specs.Codes.{board_line, board_number}
use Rattle.page_texts.specs.Examples.{EndExamples, PageFileExamples}
use Rattle.page_texts.specs.PageFiles.{bad_line}

pub page_file_examples : PageFileExamples
unfolding bad_line lines_of
page_file_examples = record { empty = refl; two = refl; unended = refl; twice = refl; later = refl; spaced = refl; returned = refl }

pub end_examples : EndExamples
unfolding board_line board_number code_line digits
end_examples = record {
  bad_page = refl;
  no_page = refl;
  no_desk = refl;
  page = refl;
  screen = refl;
  command = refl;
  quiet = refl;
  bad_page_number = refl;
  no_page_number = refl;
  page_number = refl;
  screen_number = refl;
  cut_number = refl;
  ok_number = refl;
}
