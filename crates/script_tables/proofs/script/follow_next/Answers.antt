use Rattle.std.proofs.Common.{◌∙◌, ap, false, refl}
use Rattle.run_model.specs.DeskLines.{request_of}
use Rattle.script_tables.proofs.ScriptFacts.{steps}
use Rattle.script_tables.proofs.script.follow_next.Goals as goal

pub returns-in_ok-follow-in-Line-clause-steps : goal.returns-in_ok-follow-in-Line-clause-steps
returns-in_ok-follow-in-Line-clause-steps g c = steps _ _ _ _ _ _ _ _ c.in-Line.ensures.gives.2 refl c.in_ok-follow-in-Line.ensures

pub returns-in_ok-follow-in-TooLong-clause-steps : goal.returns-in_ok-follow-in-TooLong-clause-steps
returns-in_ok-follow-in-TooLong-clause-steps g c =
    let (line, long, is, takes) = c.in-TooLong.ensures.gives in
    steps _ _ _ _ line _ _ _ takes (ap (request_of false) is ∙ c.long_asks_as_front.ensures false line long) c.in_ok-follow-in-TooLong.ensures
