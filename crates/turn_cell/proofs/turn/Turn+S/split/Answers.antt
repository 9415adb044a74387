use Rattle.std.proofs.Common.{◌≤◌, length, ap, sym, subst, ◌∙◌, arith}
use Rattle.turn_cell.specs.Views.{least, listed}
use Rattle.turn_cell.proofs.Holdings.{least-kept, length-kept, listed-kept, split-alone}
use Rattle.turn_cell.proofs.Shares.{splits}
use Rattle.turn_cell.proofs.turn.Turn+S.split.Goals as goal

pub split_seat-requires : goal.split_seat-requires
split_seat-requires g c = let sized = c.args.self.now.sized.0 in (c.requires.seat.0, (omega arith), splits _ _ _ _ _ _ _ _ _ c.requires.idle.0 c.requires.seat.1)

pub returns-clause-number : goal.returns-clause-number
returns-clause-number g c = ap (λ v. least v.holdings) (ap (λ m. m.0) c.split_seat.ensures.2) ∙ least-kept c.args.seat.now.me.0.holdings

pub returns-clause-own : goal.returns-clause-own
returns-clause-own g c = ap (λ v. listed (least v.holdings) v.holdings) (ap (λ m. m.0) c.split_seat.ensures.2) ∙ listed-kept c.args.seat.now.me.0.holdings

pub returns-clause-not_empty : goal.returns-clause-not_empty
returns-clause-not_empty g c = λ some_number. subst (λ v. 1 ≤ length v.holdings) (sym (ap (λ m. m.0) c.split_seat.ensures.2)) (length-kept c.args.seat.now.me.0.holdings some_number)

pub returns-clause-alone : goal.returns-clause-alone
returns-clause-alone g c = λ le. let both = split-alone c.args.seat.now.me.0.holdings le in
    (ap (λ v. v.holdings) (ap (λ m. m.0) c.split_seat.ensures.2) ∙ both.0, ap (λ v. v.holdings) (ap (λ m. m.0) c.split_seat.ensures.4) ∙ both.1)
