use Rattle.std.proofs.Common.{◌∙◌, ap, sym}
use Rattle.mib_model.specs.Kept.{Kept}
use Rattle.fold_state.proofs.BoardFacts.{kept-missing}
use Rattle.fold_state.proofs.board.Board.latest_and_spoken.Goals as goal

pub returns-in-None-clause-latest : goal.returns-in-None-clause-latest
returns-in-None-clause-latest c = ap (λ (k : Kept). k.latest) (sym (kept-missing c.args.self.now c.args.name.now (sym c.place_from.ensures ∙ c.in-None.is)))

pub returns-in-None-clause-spoken : goal.returns-in-None-clause-spoken
returns-in-None-clause-spoken c = ap (λ (k : Kept). k.spoken) (sym (kept-missing c.args.self.now c.args.name.now (sym c.place_from.ensures ∙ c.in-None.is)))
