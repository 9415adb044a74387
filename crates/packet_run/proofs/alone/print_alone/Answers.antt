use Rattle.packet_run.proofs.Common.{◌∙◌, ap, arc_value, on_err, on_ok, refl, stamped_cell}
use Rattle.packet_run.proofs.PrintFacts.{has_printed, record_turned}
use Rattle.packet_run.proofs.alone.print_alone.Goals as goal

pub returns-clause-printed : goal.returns-clause-printed
returns-clause-printed g c = on_ok c.write_record.result _ _ _ (λ all told shown comes.
    let t = c.turn.ensures.turned shown comes in let f = c.finish_alone.ensures in
    has_printed all (record_turned (stamped_cell c.args.edition shown c.args.cell.now) t c.clear.ensures f.step)
    (f.edition ∙ t.edition) (ap (λ h. g.P.Structures.tables (arc_value h)) f.handle ∙ t.shown) refl told)
    c.write_record.ensures.all c.write_record.ensures.told

pub returns-clause-part : goal.returns-clause-part
returns-clause-part g c = on_err c.write_record.result _ _ (λ part shown comes.
    let t = c.turn.ensures.turned shown comes in
    rw ((record_turned (stamped_cell c.args.edition shown c.args.cell.now) t c.clear.ensures c.finish_alone.ensures.step).text) at part)
    c.write_record.ensures.part
