use Rattle.std.proofs.Common.{sym, ap, ◌∙◌, Bool, true, false, true≢false}
use Rattle.turn_cell.specs.declared.slot.Slot.{Slot}
use Rattle.turn_cell.specs.declared.slot.Slot.TheVariants.{Home, Noted, Out}
use Rattle.turn_cell.proofs.Shares.{ends}
use Rattle.turn_cell.proofs.turn.Turn+S.close.Goals as goal

abbrev is_home : {S N : Type 0} → Slot S N → Bool
is_home (Home x) = true
is_home (Noted x) = false
is_home Out = false

abbrev state_in : {S N : Type 0} → S → Slot S N → S
state_in x (Home y) = y
state_in x (Noted y) = x
state_in x Out = x

pub unreachable-requires : goal.unreachable-requires
unreachable-requires g c =
    let e = ends _ _ _ _ _ _ _ _ _ _ _ _ _ c.close_with-closed.ensures.values.2 c.requires.seat.1 c.requires.idle.0 c.requires.all c.take-slot.ensures.value in
    true≢false (ap is_home (sym e.1 ∙ c.in-Noted.is))

pub unreachable-requires-in-Out : goal.unreachable-requires-in-Out
unreachable-requires-in-Out g c =
    let e = ends _ _ _ _ _ _ _ _ _ _ _ _ _ c.close_with-closed.ensures.values.2 c.requires.seat.1 c.requires.idle.0 c.requires.all c.take-slot.ensures.value in
    true≢false (ap is_home (sym e.1 ∙ c.in-Out.is))

pub returns-clause-state : goal.returns-clause-state
returns-clause-state g c =
    let e = ends _ _ _ _ _ _ _ _ _ _ _ _ _ c.close_with-closed.ensures.values.2 c.requires.seat.1 c.requires.idle.0 c.requires.all c.take-slot.ensures.value in
    ap g.S.Machine.state c.into_inner.ensures ∙ ap (λ p. g.S.Machine.state (state_in e.0 p).value) (sym c.in-Home.is ∙ e.1) ∙ e.2

pub returns-clause-legal : goal.returns-clause-legal
returns-clause-legal g c = (ends _ _ _ _ _ _ _ _ _ _ _ _ _ c.close_with-closed.ensures.values.2 c.requires.seat.1 c.requires.idle.0 c.requires.all c.take-slot.ensures.value).3

pub returns-clause-permitted : goal.returns-clause-permitted
returns-clause-permitted g c = (ends _ _ _ _ _ _ _ _ _ _ _ _ _ c.close_with-closed.ensures.values.2 c.requires.seat.1 c.requires.idle.0 c.requires.all c.take-slot.ensures.value).4

pub returns-clause-seats : goal.returns-clause-seats
returns-clause-seats g c = (ends _ _ _ _ _ _ _ _ _ _ _ _ _ c.close_with-closed.ensures.values.2 c.requires.seat.1 c.requires.idle.0 c.requires.all c.take-slot.ensures.value).5

pub returns-clause-listed : goal.returns-clause-listed
returns-clause-listed g c = (ends _ _ _ _ _ _ _ _ _ _ _ _ _ c.close_with-closed.ensures.values.2 c.requires.seat.1 c.requires.idle.0 c.requires.all c.take-slot.ensures.value).6
