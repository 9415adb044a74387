use Rattle.std.proofs.Common.{ap, sym, ◌∙◌, Bool, List}
use Rattle.std.proofs.lemmas.List.{take_all}
use Rattle.mib_model.specs.declared.database.Database.{Database}
use Rattle.mib_model.specs.declared.rows.CapRow.{CapRow}
use Rattle.row_flaws.specs.Indexes.{first_place, has_by}
use Rattle.row_flaws.specs.Points.{point_eq, point_in}
use Rattle.mib_index.proofs.PlaceFacts.{position-more}
use Rattle.row_flaws.proofs.points.point_places.Goals as goal

pub loop-place-preserved : goal.loop-place-preserved
loop-place-preserved c = λ q.
    let p : CapRow → Bool = λ row. has_by point_eq q (point_in c.args.index.now.caf row) in
    let more = position-more c.cap-caps.result.now c.loop-place.place c.index-caps-place.result p c.loop-place-test.true c.index-caps-place.is in
    c.in_ok-note.ensures q ∙ (rw (c.loop-place.invariant q, c.point_of.ensures, c.find.ensures.row, c.curves-curves.ensures) (sym more))

pub returns : goal.returns
returns c = λ q.
    c.loop-place.invariant q ∙ ap (λ (rows : List CapRow). first_place point_eq (point_in c.args.index.now.caf) rows q) (take_all c.loop-place.place c.cap-caps.result.now c.loop-place-test.false ∙ (c.cap-caps.ensures.rows ∙ ap (λ (db : Database). db.cap) c.book.ensures))
