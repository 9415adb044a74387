use Rattle.std.proofs.Common.{◌≡◌, ◌∙◌, [], ◌∷◌, ◌++◌, ap, subst, sym}
use Rattle.param_changes.proofs.NoteFacts.{notes-both}
use Rattle.param_changes.specs.Changed.{Notes}
use Rattle.param_changes.proofs.changed.note_pair.Goals as goal

pub returns : goal.returns
returns g c =
    let name_of = g.R.Named.name_of in
    let names = c.args.names.now.items in
    let items : c.push-2.new.self.items ≡ (names ++ name_of c.args.old.now ∷ []) ++ name_of c.args.new.now ∷ [] =
    c.in_ok-push-2.ensures.items ∙ (λ i. c.in_ok-push.ensures.items i ++ c.name-2.ensures i ∷ []) ∙ ap (λ n. (names ++ n ∷ []) ++ name_of c.args.new.now ∷ []) c.name.ensures in
    subst (λ items. Notes name_of names items (c.args.old.now ∷ []) (c.args.new.now ∷ [])) (sym items) (notes-both name_of names c.args.old.now c.args.new.now)
