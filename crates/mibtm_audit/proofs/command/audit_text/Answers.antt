use Rattle.mibtm_audit.specs.Operands.{named}
use Rattle.tool_objects.specs.Objects.{shelf, sink}
use Rattle.mibtm_audit.proofs.TextFacts.{by-text}
use Rattle.mibtm_audit.proofs.command.audit_text.Goals as goal

pub returns-in-Ok : goal.returns-in-Ok
returns-in-Ok g c =
    by-text c.audit_octets.result c.args.saved.now.first c.args.saved.now.editions.items (named c.args.inputs.now)
    (shelf c.args.text.now c.text_of.new.text g.X.Source.holds g.X.Source.left g.X.Source.faults g.X.Source.missed)
    (shelf c.args.feed.now c.audit_octets.new.feed g.F.Source.holds g.F.Source.left g.F.Source.faults g.F.Source.missed)
    (sink c.args.out.now c.audit_octets.new.out g.O.Sink.written g.O.Sink.handed g.O.Sink.faults) c.in-Ok.octets.items c.deref.result.now
    c.deref.ensures.value c.in-Ok.ensures.told c.audit_octets.ensures
