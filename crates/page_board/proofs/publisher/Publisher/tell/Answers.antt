use Rattle.std.proofs.Common.{rules}
use Rattle.page_board.proofs.RuleFacts.{forks}
use Rattle.page_board.proofs.publisher.Publisher.tell.Goals as goal

pub split_pass-requires : goal.split_pass-requires
split_pass-requires c = (search rules, (search rules, (search rules, forks _ _)))
