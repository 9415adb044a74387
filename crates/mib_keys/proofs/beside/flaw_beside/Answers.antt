use Rattle.std.proofs.Common.{◌∙◌, ap, sym}
use Rattle.mib_keys.proofs.KeptFacts.{none-of}
use Rattle.mib_keys.proofs.ReadFacts.{flaws-alike}
use Rattle.mib_model.specs.Points.{first_of}
use Rattle.mib_keys.proofs.beside.flaw_beside.Goals as goal

pub returns-then-covers : goal.returns-then-covers
returns-then-covers c = ap first_of (sym (sym (flaws-alike c.args.alike c.args.base.now c.args.book.now c.requires.alike c.args.kind (sym c.covers.ensures ∙ c.if-covers.true)) ∙ none-of c.args.base.now c.requires.sound c.args.kind))
