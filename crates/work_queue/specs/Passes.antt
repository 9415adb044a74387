-- What a contract sees of a queue and of its passes.
use Rattle.std.specs.Prelude.{ℕ}
use Rattle.crossbeam_queue.specs.Passes.{view, IsPassOf, ruled_capacity}
use Rattle.work_queue.specs.declared.account.Account.{Account}
use Rattle.work_queue.specs.declared.queue.Queue.{Queue}
use Rattle.work_queue.specs.declared.queue.Pass.{Pass}

-- how many jobs the queue has room for
abbrev pub room_of : {J : Type 0} → Queue J → ℕ
room_of queue = ruled_capacity queue.ring

-- what the pass has put and got
abbrev pub account_of : {J : Type 0} → Pass J → Account J
account_of pass = view pass.ruled

-- the pass is one of this queue
abbrev pub IsOf : {J : Type 0} → Queue J → Pass J → Type 0
IsOf queue pass = IsPassOf queue.ring pass.ruled
