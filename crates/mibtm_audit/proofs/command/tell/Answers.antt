use Rattle.std.proofs.Common.{◌∙◌}
use Rattle.tool_objects.specs.Objects.{sink}
use Rattle.mibtm_audit.proofs.TellFacts.{not-handed}
use Rattle.mibtm_audit.proofs.command.tell.Goals as goal

pub returns-in-Err-flush : goal.returns-in-Err-flush
returns-in-Err-flush g c =
    not-handed c.args.found (sink c.args.out.now c.flush.new.self g.O.Sink.written g.O.Sink.handed g.O.Sink.faults) c.bytes.result.now (g.O.Sink.written c.write_all.new.out)
    (g.O.Sink.faults c.write_all.new.out) (c.bytes.ensures.bytes ∙ c.finding_line.ensures) c.in-Ok.ensures.all c.flush.ensures.bytes c.in-Ok.ensures.cause.ok c.in-Err-flush.ensures.cause.later c.in-Err-flush.ensures.cause.failed
