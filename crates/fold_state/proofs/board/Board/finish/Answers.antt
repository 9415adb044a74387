use Rattle.std.proofs.Common.{sym, subst, append_assoc}
use Rattle.fold_state.specs.Boards.{Slots}
use Rattle.fold_state.specs.Entering.{StandsFor}
use Rattle.fold_state.proofs.board.Board.finish.Goals as goal

pub returns-clause-memory : goal.returns-clause-memory
returns-clause-memory c = λ asked db m stands.
    let values = c.args.seen.now.values.now in
    let began = subst (λ (b : Slots). StandsFor asked db c.args.params.now c.args.demands.now b values m) (sym c.begin-first.ensures) stands in
    (c.finish_values.ensures.finished asked db m began).memory

pub returns-clause-text : goal.returns-clause-text
returns-clause-text c = λ asked db m stands.
    let values = c.args.seen.now.values.now in
    let began = subst (λ (b : Slots). StandsFor asked db c.args.params.now c.args.demands.now b values m) (sym c.begin-first.ensures) stands in
    let done = c.finish_values.ensures.finished asked db m began in
    rw (c.ended_line.ensures.text, done.text, c.head_line.ensures.text) (simp append_assoc)
