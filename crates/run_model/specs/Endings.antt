-- Which code a run ends with: the first, in a fixed order, of what happened. [This profile.]
use Rattle.std.specs.Prelude.{ℕ, Bool, ◌==◌, not, if◌then◌else◌}
use Rattle.run_model.specs.declared.code.Code.{Code}
use Rattle.run_model.specs.declared.code.Code.TheVariants.{Ok, Cut, FeedFault, DeskFault, OutFault, ReplyFault, Limit}

-- what happened in a run: faults of its objects, the octets that the feed has left behind its last whole packet, and whether
-- as many packets were read as a run may have
pub record Ending : Type 0 where
  pub out_failed : Bool
  pub replies_failed : Bool
  pub feed_failed : Bool
  pub desk_failed : Bool
  pub rest : ℕ
  pub is_limit : Bool

-- where nothing failed: a rest, the limit, or all is well
abbrev pub code_of_rest : Bool → ℕ → Code
code_of_rest is_limit rest = if not (rest == 0) then Cut rest else if is_limit then Limit else Ok

-- the output's fault goes before that of the replies, of the feed and of the desk; then come a rest and the limit
unfoldable pub code_of_ending : Ending → Code
code_of_ending e =
    if e.out_failed then OutFault
    else if e.replies_failed then ReplyFault
    else if e.feed_failed then FeedFault
    else if e.desk_failed then DeskFault
    else code_of_rest e.is_limit e.rest
