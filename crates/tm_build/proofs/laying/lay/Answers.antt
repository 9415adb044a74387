use Rattle.std.proofs.Common.{◌≡◌, ◌∙◌, List, sym, ap}
use Rattle.std.specs.List.{flat_map}
use Rattle.mib_model.specs.declared.rows.PcfRow.{PcfRow}
use Rattle.mib_model.specs.declared.rows.PlfRow.{PlfRow}
use Rattle.mib_model.specs.Fixed.{occurrences, places}
use Rattle.mib_model.specs.Parameters.{measured_encoding, parameter}
use Rattle.build_rules.specs.Laying.{values_from}
use Rattle.tm_build.proofs.StructureFacts.{with-layout}
use Rattle.tm_build.proofs.laying.lay.Goals as goal

pub returns-then-has_layout-clause-values : goal.returns-then-has_layout-clause-values
unfolding places
returns-then-has_layout-clause-values g c =
    let db = c.args.tables.now in
    let source = g.N.Numbers.source c.args.numbers.now in
    c.lay_rows.ensures.values
    ∙ (ap (λ (pcfs : List PcfRow). values_from source 0 (flat_map (λ row. occurrences row (measured_encoding (parameter pcfs row.name))) c.places-rows.result.now)) c.parameters.ensures
    ∙ (ap (λ (rows : List PlfRow). values_from source 0 (flat_map (λ row. occurrences row (measured_encoding (parameter db.pcf row.name))) rows)) c.places-rows.ensures
    ∙ with-layout db source c.args.row.now (sym c.has_layout.ensures ∙ c.if-has_layout.true)))
