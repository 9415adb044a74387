use Rattle.std.proofs.Common.{◌∙◌, [], append-nil, refl, sym}
use Rattle.page_board.specs.Ends.{known_by}
use Rattle.page_board.proofs.RuleFacts.{begins-trans}
use Rattle.page_board.proofs.catching.look_for.Goals as goal

pub loop-init : goal.loop-init
loop-init g c = record { told = refl; board = refl; later = ([], sym (append-nil (known_by c.args.viewer.now).seen)) }

pub returns-then-page-number-clause-later : goal.returns-then-page-number-clause-later
returns-then-page-number-clause-later g c =
    begins-trans (known_by c.look-page.new.self).seen (known_by c.loop.viewer).seen (known_by c.args.viewer.now).seen c.look-page.ensures.looks.later c.loop.invariant.later

pub loop-preserved : goal.loop-preserved
loop-preserved g c =
    let inv = c.loop.invariant in record {
      told = c.look-page.ensures.looks.same ∙ inv.told;
      board = c.look-page.ensures.board ∙ inv.board;
      later = begins-trans (known_by c.look-page.new.self).seen (known_by c.loop.viewer).seen (known_by c.args.viewer.now).seen c.look-page.ensures.looks.later inv.later;
    }
