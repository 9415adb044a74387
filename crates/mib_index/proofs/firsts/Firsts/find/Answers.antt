use Rattle.std.proofs.Common.{Bool, Some, ap, is_some, sym, ◌∙◌}
use Rattle.std.specs.Option.{option_eq}
use Rattle.mib_index.proofs.PlaceFacts.{found-item, found-some, viewed}
use Rattle.mib_index.proofs.firsts.Firsts.find.Goals as goal

pub returns-clause-row : goal.returns-clause-row
returns-clause-row g c =
    rw (c.row_at.ensures, c.place.ensures, c.self.view_is) (found-item (λ (row : g.row.B-Row.Denot). option_eq g.B.Key.PartialEq.eq (g.B.By.key_of row) (Some c.args.key.now)) c.args.self.now)

pub returns-clause-there : goal.returns-clause-there
returns-clause-there g c =
    let p : g.row.B-Row.Denot → Bool = λ row. option_eq g.B.Key.PartialEq.eq (g.B.By.key_of row) (Some c.args.key.now) in
    sym (viewed _ c.row_at.result) ∙ ap is_some (returns-clause-row g c) ∙ found-some p c.args.self.now
