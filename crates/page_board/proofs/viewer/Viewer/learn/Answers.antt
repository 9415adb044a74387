use Rattle.std.proofs.Common.{rules}
use Rattle.page_board.proofs.RuleFacts.{merges}
use Rattle.page_board.proofs.viewer.Viewer.learn.Goals as goal

pub join_pass-requires : goal.join_pass-requires
join_pass-requires c = (search rules, (search rules, (search rules, merges _ _ _ _)))
