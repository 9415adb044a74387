use Rattle.std.proofs.Common.{◌≡◌, ◌∙◌, ℕ, suc, ◌-◌, ap, arith}
use Rattle.packet_sheets.specs.Stretches.{start_from}
use Rattle.packet_sheets.proofs.StretchFacts.{start-behind}
use Rattle.packet_sheets.proofs.stretch.start_of.Goals as goal

pub returns-else-k-eq0 : goal.returns-else-k-eq0
returns-else-k-eq0 c =
    let k = c.args.k in
    let ends = c.args.ends.now in
    let next : suc (k - 1) ≡ k = omega (arith, c.if-k-eq0.false) in
    start-behind 0 ends (k - 1) _ (omega (arith, c.requires, next)) ∙ ap (λ (n : ℕ). start_from 0 ends n) next
