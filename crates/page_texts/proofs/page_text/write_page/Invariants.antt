use Rattle.std.proofs.Common.{◌≡◌, ◌++◌, drop}
use Rattle.std.specs.List.{flat_map, zip}
use Rattle.display_pages.specs.Pages.{cell_text, page_text}
use Rattle.page_texts.specs.Written.{Passes}
use Rattle.page_texts.proofs.page_text.write_page.Given as goal

abbrev pub invariant-loop-place : goal.invariant-loop-place
invariant-loop-place g l = record {
  passed :
      Passes (g.S.Sink.written l.initial.screen) (g.S.Sink.written l.screen) (page_text l.names l.page)
      (l.line ++ flat_map cell_text (zip (drop l.place l.names) (drop l.place l.page.cells)));
  faults : g.S.Sink.faults l.screen ≡ g.S.Sink.faults l.initial.screen;
  borrow : g.S.Sink.borrow l.screen ≡ g.S.Sink.borrow l.initial.screen;
}
