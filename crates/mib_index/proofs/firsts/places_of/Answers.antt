use Rattle.std.proofs.Common.{◌∙◌, Some, ap, arith, sym}
use Rattle.std.proofs.lemmas.List.{take_all}
use Rattle.std.specs.List.{position}
use Rattle.std.specs.Option.{option_eq}
use Rattle.mib_index.proofs.PlaceFacts.{position-more}
use Rattle.mib_index.proofs.firsts.places_of.Goals as goal

pub loop-place-preserved : goal.loop-place-preserved
loop-place-preserved g c = λ key.
    let p = λ (row : g.row.B-Row.Denot). option_eq g.B.Key.PartialEq.eq (g.B.By.key_of row) (Some key) in
    let more = position-more c.args.rows.now c.loop-place.place c.index-rows-place.result p c.loop-place-test.true c.index-rows-place.is in
    c.in_ok-note.ensures key ∙ (rw (c.loop-place.invariant key, c.key.ensures) (sym more))

pub returns : goal.returns
returns g c = λ key.
    let p = λ (row : g.row.B-Row.Denot). option_eq g.B.Key.PartialEq.eq (g.B.By.key_of row) (Some key) in
    let done = c.loop-place-test.false in
    c.loop-place.invariant key ∙ ap (position p) (take_all c.loop-place.place c.args.rows.now (omega arith))
