use Rattle.std.proofs.Common.{◌∙◌, ap, sym}
use Rattle.mib_model.specs.Kept.{Kept}
use Rattle.fold_state.proofs.BoardFacts.{kept-missing}
use Rattle.fold_state.proofs.board.Board.latest.Goals as goal

pub returns-in-None-clause-latest : goal.returns-in-None-clause-latest
returns-in-None-clause-latest c = ap (λ (k : Kept). k.latest) (sym (kept-missing c.args.self.now c.args.name (sym c.place.ensures ∙ c.in-None.is)))
