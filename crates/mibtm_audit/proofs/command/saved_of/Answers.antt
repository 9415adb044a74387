use Rattle.tool_objects.specs.Objects.{shelf}
use Rattle.mibtm_audit.proofs.ScriptFacts.{scripted}
use Rattle.mibtm_audit.proofs.command.saved_of.Goals as goal

pub returns-in-Ok-true-clause-told : goal.returns-in-Ok-true-clause-told
returns-in-Ok-true-clause-told g c =
    scripted c.args.book c.args.name.now (shelf c.args.desk.now c.saved_by.new.desk g.D.Source.holds g.D.Source.left g.D.Source.faults g.D.Source.missed) c.aim.new.self
    c.in-Ok-true.field-0 c.saved_by.result c.in-Ok-true.field-0-test c.in-Ok-true.ensures.held c.in-Ok-true.ensures.left c.in-Ok-true.ensures.cause.ok c.in-Ok-true.ensures.missed.ok
    c.saved_by.ensures.ok c.saved_by.ensures.missed c.saved_by.ensures.told
