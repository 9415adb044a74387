use Rattle.std.proofs.Common.{ap, arith, ◌∙◌, sym, Bool, Option, if◌then◌else◌, Some, None}
use Rattle.std.proofs.lemmas.List.{take_all}
use Rattle.std.specs.List.{find}
use Rattle.std.specs.Option.{option_eq, option_or}
use Rattle.first_rows.proofs.FindFacts.{find-more}
use Rattle.first_rows.proofs.first_rows.firsts.Goals as goal

pub loop-row-preserved : goal.loop-row-preserved
loop-row-preserved g c = λ key.
    let p : g.row.B-Row.Denot → Bool = λ row. option_eq g.B.Key.PartialEq.eq (g.B.By.key_of row) (Some key) in
    let noted : Option g.row.B-Row.Denot → Option g.row.B-Row.Denot = λ before. option_or before (if p c.row-item.result then Some c.row-item.result else None) in
    c.in_ok-note.ensures key ∙ (ap noted (c.loop-row.invariant key) ∙ sym (find-more p c.args.rows.now c.loop-row.row-index c.row-item.result c.loop-row-test.true c.row-item.is))

pub returns : goal.returns
returns g c = λ key.
    let p : g.row.B-Row.Denot → Bool = λ row. option_eq g.B.Key.PartialEq.eq (g.B.By.key_of row) (Some key) in
    let done = c.loop-row-test.false in
    c.loop-row.invariant key ∙ ap (find p) (take_all c.loop-row.row-index c.args.rows.now (omega arith))
