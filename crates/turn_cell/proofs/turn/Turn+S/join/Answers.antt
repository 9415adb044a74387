use Rattle.std.proofs.Common.{ap, ◌∙◌, arith}
use Rattle.turn_cell.proofs.Shares.{joins}
use Rattle.turn_cell.proofs.Steps.{settles}
use Rattle.turn_cell.proofs.turn.Turn+S.join.Goals as goal

pub join_seat-requires : goal.join_seat-requires
join_seat-requires g c =
    let sized = c.args.self.now.sized.0 in
    (c.requires.seat.0, c.requires.other.0, c.requires.other_idle.1, (omega arith), joins _ _ _ _ _ _ _ _ _ _ _ c.requires.idle.0 c.requires.seat.1 c.requires.other_idle.0)

pub load-requires : goal.load-requires
load-requires g c =
    let sized = c.args.self.now.sized.0 in let e = c.join_seat.ensures.2 in
    (c.join_seat.ensures.0 ∙ c.requires.seat.0, (omega arith), settles _ _ _ _ _ _ _ _ _ _ (ap (λ m. m.0.standing) e) (ap (λ m. m.0.origin) e ∙ c.requires.seat.1))
