use Rattle.std.proofs.Common.{◌∙◌, ap, sym}
use Rattle.mib_model.specs.Interpreter.{title_of}
use Rattle.row_searches.proofs.searches.RowSearches.title.Goals as goal

pub returns-in-Spid : goal.returns-in-Spid
unfolding title_of
returns-in-Spid c = c.title_of.ensures ∙ sym (ap (title_of c.args.self.now) c.in-Spid.is)
