use Rattle.std.proofs.Common.{rules, ◌<◌, ℕ, sym, ap, subst, ◌∙◌}
use Rattle.crossbeam_utils.specs.Seq.{cell_view}
use Rattle.display_pages.specs.declared.page.Page.{Page}
use Rattle.page_board.specs.declared.view.BoardView.{BoardView}
use Rattle.page_board.specs.Sheets.{page_in}
use Rattle.page_board.specs.Views.{no_page, page_shown}
use Rattle.page_board.proofs.RuleFacts.{last-snoc, publishes}
use Rattle.page_board.proofs.publisher.Publisher.publish.Goals as goal

pub swap_as-requires : goal.swap_as-requires
swap_as-requires g c =
    let self = c.args.self.now in
    (search rules, (search rules, (search rules, publishes _ _ c.args.sheet.now self.publishes (subst (λ (n : ℕ). n < (page_in c.args.sheet.now).number) self.number c.requires))))

pub invariant_of-self : goal.invariant_of-self
invariant_of-self g c =
    let self = c.args.self.now in let made = c.swap_as.ensures.rule in record {
      seated = c.swap_as.ensures.cell.0 ∙ self.seated;
      publishes = ap (λ (v : BoardView). v.publishes) made ∙ self.publishes;
      number = sym (ap (λ (v : BoardView). (page_shown v.seen).number) made ∙ ap (λ (p : Page). p.number) (last-snoc no_page (cell_view self.pass).seen (page_in c.args.sheet.now)));
    }
