use Rattle.std.proofs.Common.{rules, sym, ◌∷◌, ap, ◌∙◌, arith}
use Rattle.atomic_table.specs.Table.{rest}
use Rattle.turn_cell.specs.declared.slot.Slot.TheVariants.{Home}
use Rattle.turn_cell.proofs.Steps.{draws}
use Rattle.turn_cell.proofs.turn.Turn+S.enter.Goals as goal

pub fetch_add-ticket-requires : goal.fetch_add-ticket-requires
fetch_add-ticket-requires g c = let sized = c.args.self.now.sized.0 in (c.requires.seat.0, (omega arith), draws _ _ _ _ _ _ _ _ _ c.requires.idle.0 c.requires.number c.requires.room)

pub exchange-requires : goal.exchange-requires
exchange-requires g c =
    let z = c.wait_turn.ensures.turn in let x = z.0 in let slot = ap (λ m. m.1) z.2 in
    (search rules, (Home x, slot ∙ ap (λ l. (0, Home x) ∷ rest l) (sym slot)))
