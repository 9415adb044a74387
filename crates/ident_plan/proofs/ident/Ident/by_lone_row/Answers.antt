use Rattle.std.proofs.Common.{◌∙◌, ◌==◌, ◌&&◌, ap}
use Rattle.std.specs.List.{find}
use Rattle.mib_model.specs.Match.{found_of}
use Rattle.mib_model.specs.declared.rows.PidRow.{PidRow}
use Rattle.ident_plan.proofs.ident.Ident.by_lone_row.Goals as goal

pub returns : goal.returns
returns c =
    let types = c.types-service in
    c.found_by.ensures
    ∙ (ap (found_of types.result.0 types.result.1) c.in_ok-row.ensures
    ∙ (λ i. found_of (types.ensures.service i) (types.ensures.subtype i) (find (λ (row : PidRow). (row.apid == (c.requires.header i).apid) && (row.service == types.ensures.service i)
    && (row.subtype == types.ensures.subtype i) && (row.pi1_val == 0) && (row.pi2_val == 0)) c.args.self.now.pids)))
