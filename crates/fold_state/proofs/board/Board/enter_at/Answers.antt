use Rattle.std.proofs.Common.{Some, refl, sym}
use Rattle.std.proofs.lemmas.Int.{to_z-of_z}
use mir.Syntax.{w128}
use Rattle.param_state.specs.FinishedValues.{bare_value}
use Rattle.fold_state.specs.Opened.{name_at}
use Rattle.fold_state.proofs.board.Board.enter_at.Goals as goal

pub returns-then-has_seat-clause-memory : goal.returns-then-has_seat-clause-memory
returns-then-has_seat-clause-memory c = λ below.
    c.set_latest.ensures.memory (bare_value (name_at c.args.self.now c.args.seat) (Some c.args.raw)) c.named-name.ensures.place refl (sym (to_z-of_z w128 c.args.raw c.ranges.raw))
