use Rattle.std.proofs.Common.{◌≡◌, ◌∙◌, ◌-◌, ap, take}
use Rattle.std.specs.List.{find}
use Rattle.std.specs.Str.{bytes_eq}
use Rattle.mib_model.specs.declared.rows.CafRow.{CafRow}
use Rattle.mib_model.specs.CurveFlaws.{is_bad_point}
use Rattle.row_flaws.specs.Indexes.{first_place}
use Rattle.row_flaws.specs.Points.{point_eq, point_in, is_repeated_point}
use Rattle.row_flaws.proofs.PointFacts.{point-bad}
use Rattle.row_flaws.proofs.points.cap_flaw.Goals as goal

pub returns : goal.returns
returns c =
    let db = c.args.lookups.now in
    let bad : c.is_bad_point-bad.result ≡ is_bad_point (find (λ (k : CafRow). bytes_eq k.numbr c.args.row.now.numbr) db.caf) (take (c.args.number - 1) db.cap) c.args.row.now =
    c.is_bad_point-bad.ensures ∙ (ap (λ o. is_repeated_point (first_place point_eq (point_in db.caf) db.cap) c.args.number o c.args.row.now) c.curve-curve.ensures.row ∙ point-bad db.caf db.cap c.args.number c.args.row.now) in
    cc
