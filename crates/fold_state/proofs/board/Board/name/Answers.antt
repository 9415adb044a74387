use Rattle.std.proofs.Common.{◌∙◌, [], ap, sym, get_or}
use Rattle.std.proofs.lemmas.List.Quantifiers.{position-Some}
use Rattle.fold_state.specs.Boards.{Slots}
use Rattle.param_state.specs.ParamPlans.{is_name_of}
use Rattle.fold_state.proofs.BoardFacts.{name-at, slot-within}
use Rattle.param_state.proofs.NamedFacts.{same-name}
use Rattle.fold_state.proofs.board.Board.name.Goals as goal

pub returns : goal.returns
returns c = λ name at.
    let slots = c.self.inside.slots.items in
    let board = c.args.self.now in
    let below = slot-within slots board c.args.at c.self.view_is c.requires in
    let here = name-at slots c.args.at c.index.result.now below c.index.ensures in
    let same = same-name (get_or board.names c.args.at []) name (position-Some (is_name_of name) board.names c.args.at [] at).1 in
    sym here ∙ (ap (λ (b : Slots). get_or b.names c.args.at []) c.self.view_is ∙ same)
