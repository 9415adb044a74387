use Rattle.std.proofs.Common.{rules, sym, subst}
use Rattle.crossbeam_utils.specs.Seq.{cell_view}
use Rattle.display_pages.specs.declared.page.Page.{Page}
use Rattle.page_board.specs.Views.{Looks}
use Rattle.page_board.proofs.RuleFacts.{looks}
use Rattle.page_board.proofs.viewer.Viewer.look.Goals as goal

pub load_as-sheet-requires : goal.load_as-sheet-requires
load_as-sheet-requires g c = (search rules, (search rules, (search rules, looks _ _)))

pub returns-clause-looks : goal.returns-clause-looks
returns-clause-looks g c = subst (λ (p : Page). Looks (cell_view c.args.self.now.pass) p (cell_view c.load_as-sheet.new.pass)) (sym c.page_of.ensures) c.load_as-sheet.ensures.rule
