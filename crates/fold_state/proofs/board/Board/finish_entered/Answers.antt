use Rattle.std.proofs.Common.{List, ℕ, length, sym, subst}
use Rattle.mib_model.specs.Kept.{all_entered}
use Rattle.fold_state.specs.Boards.{Slots, memory_of}
use Rattle.fold_state.specs.Entering.{AreFinishedFor}
use Rattle.fold_state.specs.Premises.{AreSeated}
use Rattle.fold_state.proofs.ServeFacts.{finished-for}
use Rattle.fold_state.proofs.board.Board.finish_entered.Goals as goal

pub returns-clause-finished : goal.returns-clause-finished
returns-clause-finished c = λ asked db m stands.
    let values = c.args.seen.now.values.now in
    let mid = c.enter_seated-seats.new.self in
    let entered = c.enter_seated-seats.ensures.entered db c.args.params.now stands.fits in
    let handed = subst (λ (seats : List ℕ). AreSeated mid values (length values) seats) (sym c.deref.ensures.value) entered.seated in
    let done = c.finish_all.ensures.finished db entered.fits handed in
    subst (λ (b : Slots). AreFinishedFor asked db c.args.seen.now.packet.now values (all_entered m values) (memory_of b) c.args.out.now c.finish_all.new.out) (sym c.give_seats.ensures)
    (finished-for asked db c.args.params.now c.args.demands.now c.args.self.now values m stands mid c.args.seen.now.packet.now (memory_of c.finish_all.new.self) c.args.out.now c.finish_all.new.out entered.memory done)
