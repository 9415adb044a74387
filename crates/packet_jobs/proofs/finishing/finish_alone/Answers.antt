use Rattle.packet_jobs.proofs.Common.{◌∙◌, ap, memory_of, sym}
use Rattle.decode_one.proofs.FinishFacts.{stepped-exactly}
use Rattle.packet_jobs.proofs.finishing.finish_alone.Goals as goal

pub returns-clause-step : goal.returns-clause-step
returns-clause-step g c = λ course s comes.
    stepped-exactly (g.P.Structures.tables c.deref-plans.result.now) c.args.cell.now.number c.packet-packet.result.now (memory_of c.args.in_use.now.board)
    (memory_of c.finish.new.board) c.args.room.now.lines c.finish.new.out c.finish.ensures.step course s (record {
      number = comes.number;
      packet = comes.packet ∙ sym c.packet-packet.ensures.packet;
      tables = comes.tables ∙ ap g.P.Structures.tables (sym c.deref-plans.ensures);
      memory = comes.memory;
    })
