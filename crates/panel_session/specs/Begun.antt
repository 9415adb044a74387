-- How a desk of a panel begins. [This profile.]
use Rattle.std.specs.Prelude.{◌≡◌, ℕ, true, [], Option, Some}
use Rattle.histories.specs.History.{StartsWith, moves_of}
use Rattle.live_desk.specs.declared.desk_end.DeskEnd.{DeskEnd}
use Rattle.live_desk.specs.Scripts.{Worked}
use Rattle.live_desk.specs.Standing.{Standing}
use Rattle.run_model.specs.RegisterHistories.{RegisterHistory}

-- the desk of this number handled its lines up to the first `go`, or to the end of its script: from what was seen of the history before, in which
-- it had no move, to what is seen now, in which all of its moves stand, and no stamp
pub record Begins (number : ℕ) (end : Option DeskEnd) (old new : Standing) (before now : RegisterHistory) : Type 0 where
  pub worked : Worked (Some number) true end old new
  pub behind : StartsWith now before
  pub unmoved : moves_of number before ≡ []
  pub seen : RegisterHistory
  pub entered : moves_of number seen ≡ new.held.own
  pub shown : StartsWith now seen
  pub no_stamp : moves_of 0 now ≡ []
