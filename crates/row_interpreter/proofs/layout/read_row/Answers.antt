use Rattle.std.proofs.Common.{◌≡◌, ◌∙◌, ◌+◌, ◌*◌, ◌<◌, [], ◌∷◌, ℕ, None, Some, List, Option, get_or, take, subst, sym, ap, arith}
use Rattle.mib_model.specs.declared.packet.Ended.{Ended}
use Rattle.mib_model.specs.declared.packet.Value.{Value}
use Rattle.mib_model.specs.declared.rows.PlfRow.{PlfRow}
use Rattle.mib_model.specs.Encodings.{Encoding}
use Rattle.mib_model.specs.Fixed.{Place, occurrences}
use Rattle.row_interpreter.proofs.ReadFacts.{occurrences-at, occurrences-long, reads-early, reads-last, reads-next}
use Rattle.row_interpreter.specs.Readings.{Reads}
use Rattle.row_interpreter.proofs.layout.read_row.Goals as goal

-- the next occurrence of a row
next : (packet : List ℕ) (row : PlfRow) (shape : Encoding) (k at : ℕ) (ended : Option Ended) (old between new : List Value) → k < row.nbocc → at ≡ 8 * row.offby + row.offbi + k * row.lgocc
    → Reads packet (take k (occurrences row (Some shape))) None old between → Reads packet (record { name = row.name; at = at; shape = shape } ∷ []) ended between new
    → Reads packet (take (k + 1) (occurrences row (Some shape))) ended old new
next packet row shape k at ended old between new within is first then =
    let all : List Place = occurrences row (Some shape) in
    let place : Place = record { name = row.name; at = at; shape = shape } in
    let there : place ≡ get_or all k place =
    ap (λ (n : ℕ). record { name = row.name; at = n; shape = shape }) is ∙ sym (occurrences-at row shape k place within) in
    reads-next packet all k place ended old between new (omega (arith, within, occurrences-long row shape)) there first then

pub returns-in-Some-clause-reads : goal.returns-in-Some-clause-reads
returns-in-Some-clause-reads c =
    let at = c.occurrence_at-at.ensures in
    reads-early c.args.packet.now (occurrences c.args.row.now (Some c.args.shape)) (c.loop-k.k + 1) c.in-Some.ended c.args.values.now.items c.read_value.new.values.items
    (next c.args.packet.now c.args.row.now c.args.shape c.loop-k.k c.occurrence_at-at.result (Some c.in-Some.ended) c.args.values.now.items c.loop-k.values.items c.read_value.new.values.items
    c.loop-k-test.true at c.loop-k.invariant.reads
    (subst (λ (e : Option Ended). Reads c.args.packet.now (record { name = c.args.row.now.name; at = c.occurrence_at-at.result; shape = c.args.shape } ∷ []) e c.loop-k.values.items c.read_value.new.values.items) c.in-Some.is c.in_ok-ended.ensures.reads))

pub loop-k-preserved : goal.loop-k-preserved
loop-k-preserved c =
    let at = c.occurrence_at-at.ensures in
    record {
      reads = next c.args.packet.now c.args.row.now c.args.shape c.loop-k.k c.occurrence_at-at.result None c.args.values.now.items c.loop-k.values.items c.read_value.new.values.items
          c.loop-k-test.true at c.loop-k.invariant.reads
          (subst (λ (e : Option Ended). Reads c.args.packet.now (record { name = c.args.row.now.name; at = c.occurrence_at-at.result; shape = c.args.shape } ∷ []) e c.loop-k.values.items c.read_value.new.values.items) c.in_default.is c.in_ok-ended.ensures.reads);
      few = c.in_ok-ended.ensures.few;
      all = c.in_ok-ended.ensures.all;
    }

pub returns-clause-reads : goal.returns-clause-reads
returns-clause-reads c =
    reads-last c.args.packet.now (occurrences c.args.row.now (Some c.args.shape)) c.loop-k.k None c.args.values.now.items c.loop-k.values.items
    (let long = occurrences-long c.args.row.now c.args.shape in omega (arith, long, c.loop-k-test.false)) c.loop-k.invariant.reads
