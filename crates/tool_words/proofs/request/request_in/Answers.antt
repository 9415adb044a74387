use Rattle.std.proofs.Common.{sym, subst, Some, None}
use Rattle.tool_words.specs.Requests.{Asks}
use Rattle.tool_words.proofs.CommandFacts.{no-command, command-of_words}
use Rattle.tool_words.proofs.request.request_in.Goals as goal

pub returns-in-empty : goal.returns-in-empty
returns-in-empty c = no-command c.args.words.now c.in-empty.len_below

pub returns-in-Some : goal.returns-in-Some
returns-in-Some c =
    subst (Asks c.verb_request.result) (sym (command-of_words c.args.words.now c.word-item.result c.as_str.result.now (Some c.in-Some.verb) c.in-len1-up.len_at_least c.word-item.is c.as_str.ensures.value c.in-Some.ensures)) c.verb_request.ensures

pub returns-in-None : goal.returns-in-None
returns-in-None c = command-of_words c.args.words.now c.word-item.result c.as_str.result.now None c.in-len1-up.len_at_least c.word-item.is c.as_str.ensures.value c.in-None.ensures
