use Rattle.std.proofs.Common.{◌<◌, ◌≤◌, length, refl, sym, arith}
use Rattle.std.proofs.lemmas.Bool.Decides.{nat_tests}
use Rattle.param_state.proofs.DemandFacts.{note-nowhere, note-past, note-set}
use Rattle.param_state.proofs.demands.Noting.note.Goals as goal

pub returns-in_default : goal.returns-in_default
returns-in_default c = note-nowhere c.args.params.now c.args.name.now c.args.self.now.demands.items (sym c.in_default.ensures)

pub returns-then-at-len : goal.returns-then-at-len
returns-then-at-len c =
    let demands = c.args.self.now.demands.items in
    let below : c.in-Some.at < length demands = grind (arith, nat_tests, c.if-at-len.true, c.len.ensures) in
    note-set c.args.params.now c.args.name.now demands c.in-Some.at c.index_mut.result.now _ (sym c.in-Some.ensures) below c.index_mut.ensures.value refl refl

pub returns-else-at-len : goal.returns-else-at-len
returns-else-at-len c =
    let demands = c.args.self.now.demands.items in
    let past : length demands ≤ c.in-Some.at = grind (arith, nat_tests, c.if-at-len.false, c.len.ensures) in
    note-past c.args.params.now c.args.name.now demands c.in-Some.at (sym c.in-Some.ensures) past
