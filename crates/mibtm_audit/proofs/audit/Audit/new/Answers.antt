use Rattle.std.proofs.Common.{refl}
use Rattle.mibtm_audit.proofs.FoundFacts.{starts}
use Rattle.mibtm_audit.proofs.audit.Audit.new.Goals as goal

pub returns : goal.returns
returns c =
    starts (record { first = c.args.first.now; saved = c.args.saved.now; text = c.args.text.now }) _ c.requires.admitted c.requires.short c.requires.some refl refl c.new-shown.ensures
    c.new-course.ensures c.new-comparison.ensures
