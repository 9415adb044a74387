use Rattle.std.proofs.Common.{◌≡◌, ◌∙◌, ℕ, ◌++◌, drop, length, map, ap, subst, List}
use Rattle.mib_model.specs.Kept.{Memory}
use Rattle.display_pages.specs.declared.page.Cell.{Cell}
use Rattle.display_pages.specs.Pages.{cell_of}
use Rattle.fold_state.specs.Boards.{memory_of}
use Rattle.page_board.specs.Sheets.{cells_in}
use Rattle.page_watch.proofs.LayFacts.{blank-stays, laid-over, laid-page}
use Rattle.page_watch.proofs.pager.Pager.lay.Goals as goal

pub invariant_of-self : goal.invariant_of-self
invariant_of-self c =
    let self = c.args.self.now in let memory : Memory = memory_of c.args.board.now in
    let before : List ℕ = c.lay_head.new.sheet in let after : List ℕ = c.lay_cells.new.sheet in
    let cells = subst (λ (names : List (List ℕ)). cells_in after ≡ map (cell_of memory) names ++ drop (length names) (cells_in before)) c.deref.ensures.value c.lay_cells.ensures.cells in
    let blank = ap (λ (l : List Cell). drop (length self.names.items) l) c.lay_head.ensures.cells ∙ self.blank in record {
      few = self.few;
      blank = blank-stays memory self.names.items (cells_in after) (cells ∙ laid-over memory self.names.items (cells_in before) blank);
    }

pub returns-clause-last : goal.returns-clause-last
returns-clause-last c =
    let self = c.args.self.now in let head = c.lay_head.ensures in let laid = c.lay_cells.ensures in let memory : Memory = memory_of c.args.board.now in
    let before : List ℕ = c.lay_head.new.sheet in let after : List ℕ = c.lay_cells.new.sheet in
    let cells = subst (λ (names : List (List ℕ)). cells_in after ≡ map (cell_of memory) names ++ drop (length names) (cells_in before)) c.deref.ensures.value laid.cells in
    laid-page memory self.names.items self.sheet before after c.args.number c.args.edition self.blank head.number head.edition head.cells laid.number laid.edition cells
