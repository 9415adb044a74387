use Rattle.std.proofs.Common.{◌≡◌, ◌∙◌, ◌-◌, ap, is_some, rules}
use Rattle.row_flaws.specs.declared.points.PointKey.{PointKey}
use Rattle.row_flaws.specs.Indexes.{cut, first_place}
use Rattle.row_flaws.specs.Points.{point_eq, point_in}
use Rattle.row_flaws.proofs.points.repeats.Goals as goal

pub returns-in-Some : goal.returns-in-Some
returns-in-Some c =
    let q : PointKey = record { numbr = c.args.numbr; x = c.in-Some.x } in
    let key : c.point_key-key.result ≡ q = search rules in
    let db = c.args.lookups.now in
    rw c.in-Some.is (c.is_some.ensures ∙ ap is_some (c.before-in-Some.ensures ∙ rw c.saturating_sub.ensures (ap (cut (c.args.number - 1)) (c.point_place.ensures ∙ ap (first_place point_eq (point_in db.caf) db.cap) key))))
