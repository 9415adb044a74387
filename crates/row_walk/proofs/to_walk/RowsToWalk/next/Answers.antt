use Rattle.std.proofs.Common.{◌≡◌, ◌∙◌, ◌<◌, ◌-◌, ◌∷◌, ◌++◌, [], List, ap, arith, drop, length, length-drop, subst, sym, take}
use Rattle.std.proofs.lemmas.List.{take_all}
use Rattle.std.specs.List.{All}
use Rattle.mib_model.specs.declared.rows.VpdRow.{VpdRow}
use Rattle.row_walk.proofs.ToWalkFacts.{last-rounds, next-row, one-more}
use Rattle.row_walk.specs.declared.to_walk.Rounds.{Rounds}
use Rattle.row_walk.specs.Stacked.{IsRounds, rows_to_walk}
use Rattle.row_walk.proofs.to_walk.RowsToWalk.next.Goals as goal

pub returns-clause-some : goal.returns-clause-some
returns-clause-some c =
    let r : Rounds = c.in-Some.field-0 in
    let are : IsRounds r = last-rounds c.pop.new.self.items r (subst (All IsRounds) c.in-Some.ensures.items c.self.invariant) in
    let rest : take (length r.rows.now - 1) (drop 1 r.rows.now) ≡ drop 1 r.rows.now =
    take_all (length r.rows.now - 1) (drop 1 r.rows.now) (omega (arith, length-drop 1 r.rows.now)) in
    sym c.self.view_is ∙ (ap rows_to_walk c.in-Some.ensures.items ∙ (one-more c.pop.new.self.items r
    ∙ (next-row r.times r.rows.now (rows_to_walk c.pop.new.self.items) c.index-rows-0.result are.again are.some
    ∙ (λ i. sym c.index-rows-0.is i ∷ (sym rest i ++ sym c.in_ok-add.ensures i)))))
