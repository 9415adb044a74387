use Rattle.std.proofs.Common.{rules}
use Rattle.page_board.proofs.RuleFacts.{begins, forks}
use Rattle.page_board.proofs.publisher.Publisher.new.Goals as goal

pub ruled-requires : goal.ruled-requires
ruled-requires c = (search rules, (search rules, begins _ c.empty_sheet.ensures))

pub split_pass-requires : goal.split_pass-requires
split_pass-requires c = (search rules, (search rules, (search rules, forks _ _)))
