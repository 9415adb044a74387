use Rattle.std.proofs.Common.{◌∙◌, ap, sym}
use Rattle.mib_model.specs.Kept.{Kept}
use Rattle.fold_state.proofs.BoardFacts.{kept-missing}
use Rattle.fold_state.proofs.board.Board.spoken.Goals as goal

pub returns-in-None : goal.returns-in-None
returns-in-None c = ap (λ (k : Kept). k.spoken) (sym (kept-missing c.args.self.now c.args.name (sym c.place.ensures ∙ c.in-None.is)))
