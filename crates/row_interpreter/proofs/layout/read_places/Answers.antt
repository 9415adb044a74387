use Rattle.std.proofs.Common.{◌+◌, [], ◌∷◌, None, Some, List, Option, subst, arith}
use Rattle.std.proofs.lemmas.List.{take_all}
use Rattle.mib_model.specs.declared.packet.Ended.{Ended}
use Rattle.mib_model.specs.declared.rows.PlfRow.{PlfRow}
use Rattle.row_interpreter.proofs.ReadFacts.{read-ended, read-whole, reads-row, reads-row-early}
use Rattle.row_interpreter.specs.Readings.{Reads, places_of}
use Rattle.row_interpreter.proofs.layout.read_places.Goals as goal

pub returns-in-Some-clause-values : goal.returns-in-Some-clause-values
returns-in-Some-clause-values c =
    read-ended c.args.packet.now (places_of c.args.parameters.now c.args.rows.now) c.in-Some.ended c.args.values.now.items c.read_measured.new.values.items c.requires
    (reads-row-early c.args.packet.now c.args.parameters.now c.args.rows.now (c.loop-row.row-index + 1) c.in-Some.ended c.args.values.now.items c.read_measured.new.values.items
    (reads-row c.args.packet.now c.args.parameters.now c.args.rows.now c.loop-row.row-index c.row-item.result (Some c.in-Some.ended) c.args.values.now.items c.loop-row.values.items c.read_measured.new.values.items
    c.loop-row-test.true c.row-item.is c.loop-row.invariant.reads
    (subst (λ (e : Option Ended). Reads c.args.packet.now (places_of c.args.parameters.now (c.row-item.result ∷ [])) e c.loop-row.values.items c.read_measured.new.values.items) c.in-Some.is c.in_ok-ended.ensures.reads)))

pub returns-clause-values : goal.returns-clause-values
returns-clause-values c =
    read-whole c.args.packet.now (places_of c.args.parameters.now c.args.rows.now) c.args.values.now.items c.loop-row.values.items c.requires
    (subst (λ (rows : List PlfRow). Reads c.args.packet.now (places_of c.args.parameters.now rows) None c.args.values.now.items c.loop-row.values.items)
    (take_all c.loop-row.row-index c.args.rows.now (omega (arith, c.loop-row-test.false))) c.loop-row.invariant.reads)
