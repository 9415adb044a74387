use Rattle.std.proofs.Common.{List, [], subst, sym}
use Rattle.display_pages.specs.declared.page.Page.{Page}
use Rattle.page_watch.specs.Standing.{ArePagesOf}
use Rattle.page_board.specs.Sheets.{page_in}
use Rattle.page_watch.proofs.LayFacts.{empty-blank, empty-first}
use Rattle.page_watch.proofs.pager.Pager.new.Goals as goal

pub invariant_of-pager : goal.invariant_of-pager
invariant_of-pager g c = record {
  few = c.requires.few;
  blank = empty-blank c.args.names.items (page_in c.empty_sheet.result) c.empty_sheet.ensures;
}

pub returns-clause-stands : goal.returns-clause-stands
returns-clause-stands g c = record {
  published = subst (λ (l : List Page). ArePagesOf c.args.names.items l []) (sym c.in_ok-publisher.ensures.pages) tt;
  is_last = empty-first c.args.names.items (page_in c.empty_sheet.result) c.requires.few c.empty_sheet.ensures;
}
