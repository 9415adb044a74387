-- The reply to an activation. [This profile.]
use Rattle.std.specs.Prelude.{ℕ, Result, Ok, Err}
use Rattle.edition_register.specs.declared.outcome.UseFault.{UseFault}
use Rattle.edition_register.specs.Seats.{refused_by}
use Rattle.run_model.specs.declared.register.Answer.TheVariants as answer
use Rattle.run_model.specs.declared.reply.Reply.{Reply}
use Rattle.run_model.specs.DeskWays.{use_reply}

-- the reply by what the register answered
abbrev pub used_reply : {E B : Type 0} → ℕ → Result ℕ (UseFault E B) → Reply
used_reply edition (Ok from) = use_reply edition (answer.Used from)
used_reply edition (Err refused) = use_reply edition (refused_by refused).0
