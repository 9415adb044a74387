use Rattle.std.proofs.Common.{length, ap, subst}
use Rattle.fold_state.specs.Boards.{Slots}
use Rattle.fold_state.specs.Entering.{HasEntered}
use Rattle.fold_state.proofs.FinishFacts.{fits-kept}
use Rattle.fold_state.proofs.SeatFacts.{seated-kept}
use Rattle.fold_state.proofs.board.Board.enter_seated.Goals as goal

pub returns-clause-entered : goal.returns-clause-entered
returns-clause-entered c = λ db params fits.
    let values = c.args.values.now in
    let same = c.take_seats-seats.ensures in
    let board = c.take_seats-seats.new.self in
    let after = c.enter_all.new.self in
    let began = fits-kept db params c.args.self.now board values (ap (λ (b : Slots). b.names) same) fits in
    record {
      fits = fits-kept db params board after values c.enter_all.ensures.names began;
      seated = seated-kept board after values (length values) c.enter_all.new.seats.items c.enter_all.ensures.names (c.enter_all.ensures.seats began.slots);
      memory = subst (λ (b : Slots). HasEntered c.args.demands.now values b after) same (c.enter_all.ensures.memory began.slots began.numbers);
    }
