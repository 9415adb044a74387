use Rattle.std.proofs.Common.{◌≡◌, ◌∙◌, List, ap, false, map, option_map, sym}
use Rattle.std.specs.Arc.{arc_value}
use Rattle.mib_model.specs.Checks.{checks_of}
use Rattle.mib_model.specs.Curves.{curve_named, selections}
use Rattle.mib_model.specs.declared.rows.CurRow.{CurRow}
use Rattle.mib_model.specs.Plans.{curve_names, curves_for}
use Rattle.param_plan.specs.Slices.{slice_for, slice_of}
use Rattle.param_changes.specs.Beside.{HasRows, has_changed}
use Rattle.param_changes.proofs.beside.rows_now.Goals as goal

pub returns : goal.returns
returns c =
    let db = c.args.sources.now in
    let row = c.args.rows.now.pcf in
    let none : has_changed c.args.changed.now (slice_of c.args.rows.now) ≡ false = sym c.if-has_parameter.ensures in
    let rows : HasRows (slice_of c.args.rows.now) c.args.sources.now = c.requires.rows none in
    let curs : c.in_ok-from_slice.field-0.items ≡ selections db row.name = c.in_ok-from_slice.ensures.items ∙ c.deref.ensures.value ∙ rows.curs in
    let curves : map (option_map arc_value) c.in_ok-curves.field-0.items ≡ curves_for db row =
    c.in_ok-curves.ensures ∙ ap (λ (cs : List CurRow). map (curve_named db row.categ) (curve_names row.curtx cs)) (c.deref-2.ensures.value ∙ rows.curs) in
    let ocps : c.in_ok-from_slice-2.field-0.items ≡ checks_of db row.name = c.in_ok-from_slice-2.ensures.items ∙ c.deref-3.ensures.value ∙ rows.ocps in
    (λ i. record { pcf = row; curs = curs i; curves = curves i; ocf = rows.ocf i; ocps = ocps i }) ∙ ap (slice_for db) (sym rows.pcf)
