use Rattle.std.proofs.Common.{◌∙◌, ap}
use Rattle.std.specs.Borrow.{Bor}
use Rattle.clap.specs.Matches.{found_of}
use Rattle.clap.proofs.WalkLemmas.{raw_values-rows}
use Rattle.tool_words.proofs.CommandFacts.{values-by}
use Rattle.tool_words.specs.Requests.{texts}
use Rattle.tool_words.proofs.line.values.Goals as goal

pub returns : goal.returns
returns c = ap (λ (s : Bor _). texts s.now) c.unwrap_or.ensures ∙ values-by c.get_strs.result c.args.none _ (c.get_strs.ensures ∙ raw_values-rows (found_of c.args.matches.now) c.args.id.now) c.requires
