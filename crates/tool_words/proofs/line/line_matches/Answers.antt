use Rattle.clap.specs.Simple.{app_of}
use Rattle.clap.specs.Walk.{rows_of}
use Rattle.clap.specs.Matches.{found_of}
use Rattle.tool_words.proofs.Parting.{good-parse, bad-parse}
use Rattle.tool_words.proofs.line.line_matches.Goals as goal

pub returns-in-Ok-try_get_matches_from : goal.returns-in-Ok-try_get_matches_from
returns-in-Ok-try_get_matches_from c =
    let parse = c.in-Ok-try_get_matches_from in
    good-parse c.args.words.now (app_of c.in-Ok.command) (rows_of (found_of parse.matches)) c.in-Ok.ensures parse.ensures.kinds (λ is. (parse.ensures.matches is).0)

pub returns-in-Err : goal.returns-in-Err
returns-in-Err c = bad-parse c.args.words.now (app_of c.in-Ok.command) c.in-Err.error c.fault_of.result c.in-Ok.ensures c.in-Err.ensures.kinds c.fault_of.ensures
