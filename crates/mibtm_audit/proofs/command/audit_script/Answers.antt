use Rattle.std.proofs.Common.{subst, inr}
use Rattle.mib_model.specs.declared.database.Database.{Database}
use Rattle.mibtm_audit.specs.Operands.{named}
use Rattle.mibtm_audit.specs.Statement.{ByText}
use Rattle.tool_objects.specs.Objects.{shelf, sink}
use Rattle.mibtm_audit.proofs.command.audit_script.Goals as goal

pub returns-in-Ok : goal.returns-in-Ok
returns-in-Ok g c =
    inr (
      c.in-Ok.saved.editions.items,
      c.in-Ok.ensures.told,
      subst
          (λ (first : Database). ByText c.audit_text.result first c.in-Ok.saved.editions.items (named c.args.inputs.now)
          (shelf c.args.text.now c.audit_text.new.text g.X.Source.holds g.X.Source.left g.X.Source.faults g.X.Source.missed)
          (shelf c.args.feed.now c.audit_text.new.feed g.F.Source.holds g.F.Source.left g.F.Source.faults g.F.Source.missed)
          (sink c.args.out.now c.audit_text.new.out g.O.Sink.written g.O.Sink.handed g.O.Sink.faults))
          c.in-Ok.ensures.first c.audit_text.ensures,
    )
