use Rattle.std.proofs.Common.{ap, arith, ◌∙◌, ◌++◌, ◌∷◌, [], sym, Bool, List, filter, if◌then◌else◌, Some}
use Rattle.std.proofs.lemmas.List.{take_all}
use Rattle.std.specs.Option.{option_eq}
use Rattle.mib_index.proofs.GroupFacts.{filter-more}
use Rattle.mib_index.proofs.groups.groups_of.Goals as goal

pub loop-row-preserved : goal.loop-row-preserved
loop-row-preserved g c = λ key.
    let p : g.row.B-Row.Denot → Bool = λ row. option_eq g.B.Key.PartialEq.eq (g.B.By.key_of row) (Some key) in
    let put : List g.row.B-Row.Denot → List g.row.B-Row.Denot = λ before. if p c.row-item.result then before ++ c.row-item.result ∷ [] else before in
    c.in_ok-put.ensures key ∙ (ap put (c.loop-row.invariant key) ∙ sym (filter-more p c.args.rows.now c.loop-row.row-index c.row-item.result c.loop-row-test.true c.row-item.is))

pub returns : goal.returns
returns g c = λ key.
    let p : g.row.B-Row.Denot → Bool = λ row. option_eq g.B.Key.PartialEq.eq (g.B.By.key_of row) (Some key) in
    let done = c.loop-row-test.false in
    c.loop-row.invariant key ∙ ap (filter p) (take_all c.loop-row.row-index c.args.rows.now (omega arith))
