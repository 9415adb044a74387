use Rattle.std.proofs.Common.{◌∙◌, Some, ℤ, ap, sym, FitsSigned, rules}
use Rattle.std.proofs.lemmas.Int.{to_z-of_z}
use mir.Syntax.{w128}
use Rattle.std.specs.Option.{option_eq}
use Rattle.std.specs.Ordering.{int_eq}
use Rattle.mib_model.specs.Kept.{Kept}
use Rattle.param_state.specs.SlotViews.{kept_as}
use Rattle.fold_state.proofs.BoardFacts.{kept-missing, place-within}
use Rattle.fold_state.proofs.board.BoardHolds.holds.Goals as goal

pub slot-requires : goal.slot-requires
slot-requires c = place-within c.args.self.now c.args.name c.in-Some.at (sym c.place.ensures ∙ c.in-Some.is)

pub returns-in-Some : goal.returns-in-Some
returns-in-Some c =
    let kept = c.slot.ensures c.args.name (sym c.place.ensures ∙ c.in-Some.is) in
    let fits : FitsSigned w128 c.args.number = search rules in
    c.holds.ensures ∙ (ap (λ (n : ℤ). option_eq int_eq (kept_as c.slot.result.now).latest (Some n)) (to_z-of_z w128 c.args.number fits) ∙
    ap (λ (k : Kept). option_eq int_eq k.latest (Some c.args.number)) kept)

pub returns-in-None : goal.returns-in-None
returns-in-None c =
    let kept = kept-missing c.args.self.now c.args.name (sym c.place.ensures ∙ c.in-None.is) in
    ap (λ (k : Kept). option_eq int_eq k.latest (Some c.args.number)) (sym kept)
