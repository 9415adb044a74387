use Rattle.std.proofs.Common.{List, ◌||◌, subst}
use Rattle.mib_model.specs.declared.rows.CurRow.{CurRow}
use Rattle.mib_model.specs.declared.rows.OcpRow.{OcpRow}
use Rattle.memory_laws.specs.Alike.{is_on}
use Rattle.param_plan.specs.Slices.{ParamSlice}
use Rattle.std.specs.List.{list_any}
use Rattle.std.specs.Str.{bytes_eq}
use Rattle.param_state.specs.Demands.{Notes, slice_asks}
use Rattle.param_state.proofs.DemandFacts.{notes-more}
use Rattle.param_state.proofs.demands.Noting.note_plan.Goals as goal

pub returns : goal.returns
returns c =
    let params = c.args.params.now in
    let rows = c.rows-rows.result.now in
    let d0 = c.args.self.now.demands.items in
    let d1 = c.note_if.new.self.demands.items in
    let d2 = c.note_selections.new.self.demands.items in
    let d3 = c.note_limits.new.self.demands.items in
    let curs = subst (λ (curs : List CurRow). Notes (λ other. list_any (λ row. bytes_eq row.rlchk other) curs) params d1 d2) c.deref.ensures.value c.note_selections.ensures in
    let ocps = subst (λ (ocps : List OcpRow). Notes (λ other. list_any (λ row. is_on other row.rlchk) ocps) params d2 d3) c.deref-2.ensures.value c.note_limits.ensures in
    let two = notes-more _ _ (λ other. is_on other rows.pcf.valid || list_any (λ row. bytes_eq row.rlchk other) rows.curs.items) params d0 d1 d2 c.note_if.ensures curs (λ other h. h) in
    subst (λ (s : ParamSlice). Notes (λ other. slice_asks other s) params d0 d3) c.rows-rows.ensures
    (notes-more _ _ _ params d0 d2 d3 two ocps (λ other h. h))
