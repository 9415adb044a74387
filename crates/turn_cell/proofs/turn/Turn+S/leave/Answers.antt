use Rattle.std.proofs.Common.{rules, sym, ap, ◌∙◌, ◌∷◌, arith}
use Rattle.atomic_table.specs.Table.{rest}
use Rattle.histories.specs.History.{state_after}
use Rattle.turn_cell.specs.declared.slot.Slot.TheVariants.{Home, Noted}
use Rattle.turn_cell.specs.Standings.{has_entered}
use Rattle.turn_cell.proofs.Steps.{passes}
use Rattle.turn_cell.proofs.turn.Turn+S.leave.Goals as goal

pub exchange-requires : goal.exchange-requires
exchange-requires g c = let s = c.requires.entered.1.1 in (c.requires.entered.0.0, (Noted s.0, s.1 ∙ ap (λ l. (0, Noted s.0) ∷ rest l) (sym s.1)))

pub fetch_add-requires : goal.fetch_add-requires
fetch_add-requires g c =
    let sized = c.args.self.now.sized.0 in let e = c.exchange.ensures.3 in let v = ap (λ m. m.0) e in let slot = c.requires.entered.1.1 in (
      search rules,
      (omega arith),
      passes _ _ _ _ _ _ _ _ _ _ _ _ (ap (λ w. has_entered w.standing) v ∙ c.requires.entered.1.0)
          (ap (λ m. m.1) e ∙ ap (λ l. (0, Home c.held.inside.state) ∷ rest l) slot.1)
          (ap (λ w. w.origin) v ∙ c.requires.entered.0.1)
          (ap g.S.Machine.state c.held.view_is ∙ c.requires.state ∙ ap (λ w. state_after g.S.Machine.after (g.S.Machine.state c.args.self.now.table.shared.key.state.value) w.seen) (sym v)),
    )
