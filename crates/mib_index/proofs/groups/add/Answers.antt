use Rattle.std.proofs.Common.{◌∙◌, ◌++◌, ◌∷◌, [], List, ap, refl, rules}
use Rattle.mib_index.proofs.GroupFacts.{one-added, when-ok}
use Rattle.mib_index.proofs.groups.add.Goals as goal

pub returns : goal.returns
returns g c = when-ok c.add.result _ _ (λ is.
    one-added g.K.PartialEq.eq g.met.K.Eq.laws c.args.groups.now c.groups-3-1.given.0 c.args.key c.add.new.self c.args.row.now (λ q. search rules)
    (is ∙ ap (λ (rows : List g.row.R.Denot). rows ++ c.args.row.now ∷ []) (c.or_insert-group.ensures.value ∙ rw (c.in_ok-groups.ensures.value, c.empty.ensures) refl))) c.add.ensures
