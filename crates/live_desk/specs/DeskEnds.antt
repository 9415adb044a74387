-- How a desk's script ends. [This profile.]
use Rattle.std.specs.Prelude.{Bool, true, false, List, ℕ, Option, None}
use Rattle.live_desk.specs.declared.desk_end.DeskEnd.{DeskEnd}
use Rattle.live_desk.specs.declared.desk_end.DeskEnd.TheVariants as end
use Rattle.run_model.specs.declared.reply.Reply.TheVariants as reply
use Rattle.run_model.specs.Desk.{Plain}
use Rattle.run_model.specs.Replies.{desk_line}

-- the line of a script's limit, at the desk of this number
abbrev pub limit_line_at : Option ℕ → List ℕ
limit_line_at number = desk_line number (Plain reply.Limit)

-- so at a single desk
abbrev pub limit_line : List ℕ
limit_line = limit_line_at None

-- whether the desk failed
abbrev pub is_desk_fault : DeskEnd → Bool
is_desk_fault end.DeskFault = true
is_desk_fault other = false

-- whether the replies failed
abbrev pub is_reply_fault : DeskEnd → Bool
is_reply_fault end.ReplyFault = true
is_reply_fault other = false
