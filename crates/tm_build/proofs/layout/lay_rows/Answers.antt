use Rattle.std.proofs.Common.{◌≡◌, ℕ, List, [], ◌+◌, take, None, Some, Option, sym, ap, subst, arith, ◌∙◌}
use Rattle.std.proofs.lemmas.List.{take_all}
use Rattle.std.specs.List.{flat_map}
use Rattle.mib_model.specs.declared.rows.PlfRow.{PlfRow}
use Rattle.mib_model.specs.Encodings.{Encoding}
use Rattle.mib_model.specs.Fixed.{Place, occurrences}
use Rattle.mib_model.specs.Parameters.{measured_encoding, parameter}
use Rattle.bit_field.specs.Taken.{taken}
use Rattle.tm_build.specs.Lays.{Lays}
use Rattle.tm_build.proofs.LayFacts.{lays-all, lays-append, lays-stopped, rows-ended, rows-more}
use Rattle.tm_build.proofs.layout.lay_rows.Goals as goal

pub returns-in-Some-clause-values : goal.returns-in-Some-clause-values
returns-in-Some-clause-values g c =
    let source = g.N.Numbers.source c.args.numbers.now in
    let f : PlfRow → List Place = λ row. occurrences row (measured_encoding (parameter c.args.parameters.now row.name)) in
    let row = c.row-item.result in
    let shape : c.measured_shape-shape.result ≡ measured_encoding (parameter c.args.parameters.now row.name) = c.measured_shape-shape.ensures ∙ ap measured_encoding c.find.ensures in
    let here = subst (λ (s : Option Encoding). Lays source (occurrences row s) (Some c.in-Some.why) c.loop-row.values c.lay_row.new.values) shape c.in-Some.ensures.lays in
    lays-stopped source (flat_map f c.args.rows.now) c.in-Some.why c.args.values.now c.lay_row.new.values (ap (λ (n : ℕ). take n c.args.values.now.slots.now) c.requires.used) c.requires.used
    (rows-ended source f c.args.rows.now (c.loop-row.row-index + 1) c.in-Some.why c.args.values.now c.lay_row.new.values
    (subst (λ (places : List Place). Lays source places (Some c.in-Some.why) c.args.values.now c.lay_row.new.values)
    (sym (rows-more f c.args.rows.now c.loop-row.row-index row c.loop-row-test.true c.row-item.is))
    (lays-append source (flat_map f (take c.loop-row.row-index c.args.rows.now)) (f row) (Some c.in-Some.why) c.args.values.now c.loop-row.values c.lay_row.new.values c.loop-row.invariant.lays here)))

pub loop-row-preserved : goal.loop-row-preserved
loop-row-preserved g c =
    let source = g.N.Numbers.source c.args.numbers.now in
    let f : PlfRow → List Place = λ row. occurrences row (measured_encoding (parameter c.args.parameters.now row.name)) in
    let row = c.row-item.result in
    let shape : c.measured_shape-shape.result ≡ measured_encoding (parameter c.args.parameters.now row.name) = c.measured_shape-shape.ensures ∙ ap measured_encoding c.find.ensures in
    let here = subst (λ (s : Option Encoding). Lays source (occurrences row s) None c.loop-row.values c.lay_row.new.values) shape c.in_default.ensures.lays in
    record {
      lays = subst (λ (places : List Place). Lays source places None c.args.values.now c.lay_row.new.values)
          (sym (rows-more f c.args.rows.now c.loop-row.row-index row c.loop-row-test.true c.row-item.is))
          (lays-append source (flat_map f (take c.loop-row.row-index c.args.rows.now)) (f row) None c.args.values.now c.loop-row.values c.lay_row.new.values c.loop-row.invariant.lays here);
      slots = c.lay_row.ensures.stays.slots;
      used = c.lay_row.ensures.stays.used;
      borrow = c.lay_row.ensures.stays.borrow ∙ c.loop-row.invariant.borrow;
    }

pub returns-clause-values : goal.returns-clause-values
returns-clause-values g c =
    let source = g.N.Numbers.source c.args.numbers.now in
    let f : PlfRow → List Place = λ row. occurrences row (measured_encoding (parameter c.args.parameters.now row.name)) in
    lays-all source (flat_map f c.args.rows.now) c.args.values.now c.loop-row.values (ap (λ (n : ℕ). take n c.args.values.now.slots.now) c.requires.used) c.requires.used
    (subst (λ (rows : List PlfRow). Lays source (flat_map f rows) None c.args.values.now c.loop-row.values) (take_all c.loop-row.row-index c.args.rows.now c.loop-row-test.false) c.loop-row.invariant.lays)
