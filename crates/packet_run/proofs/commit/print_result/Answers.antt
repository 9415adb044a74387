use Rattle.packet_run.proofs.Common.{◌∙◌, ap, arc_value, IsResultOf, on_err, on_ok, subst, sym, Task}
use Rattle.packet_run.proofs.PrintFacts.{has_printed, record_use}
use Rattle.packet_run.proofs.commit.print_result.Goals as goal

pub returns-clause-printed : goal.returns-clause-printed
returns-clause-printed g c = on_ok c.write_record.result _ _ _ (λ all told s here is.
    let f = c.finish_job.ensures in let of = subst (λ (t : Task _ _). IsResultOf g.P.Structures.tables s t) c.in-Packet.is is in
    has_printed all (record_use here of c.clear.ensures f.step)
    (f.edition ∙ sym here.edition) (ap (λ h. g.P.Structures.tables (arc_value h)) f.handle ∙ sym here.shown) of.number told)
    c.write_record.ensures.all c.write_record.ensures.told

pub returns-clause-part : goal.returns-clause-part
returns-clause-part g c = on_err c.write_record.result _ _ (λ part s here is.
    let of = subst (λ (t : Task _ _). IsResultOf g.P.Structures.tables s t) c.in-Packet.is is in
    rw ((record_use here of c.clear.ensures c.finish_job.ensures.step).text) at part) c.write_record.ensures.part
