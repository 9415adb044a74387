use Rattle.std.proofs.Common.{◌≡◌, ◌∙◌, ◌+◌, ◌/◌, ◌++◌, [], ◌∷◌, ℕ, Global, List, Vec, ap, subst, sym, take}
use Rattle.std.proofs.lemmas.List.{take_all, take_more}
use Rattle.param_changes.proofs.TouchFacts.{touches-more, touches-same}
use Rattle.param_changes.specs.Touches.{Touches}
use Rattle.param_changes.proofs.touch.blocks_with.Goals.{in-Some+in_ok-push, in_default}
use Rattle.param_changes.proofs.touch.blocks_with.Goals as goal

pub loop-name-preserved : goal.loop-name-preserved
loop-name-preserved c =
    let i = c.loop-name.name-index in
    let names = c.args.names.now in
    let own = c.name-item.result in
    let base = c.args.base.now in
    let before = c.loop-name.touched.items in
    let more : take (i + 1) names ≡ take i names ++ own ∷ [] = take_more names i own c.loop-name-test.true ∙ ap (λ (n : List _). take i names ++ n ∷ []) (sym c.name-item.is) in
    subst (λ (ns : List _). Touches c.match-place.touched.items base ns) (sym more)
    (elim c.match-place.branch [
      | in-Some+in_ok-push w ↦
          let grown : c.match-place.touched.items ≡ before ++ (w.in-Some.at / 64) ∷ [] = ap (λ (v : Vec ℕ Global). v.items) w.touched-is ∙ w.in_ok-push.ensures.items in
          subst (λ (ts : List ℕ). Touches ts base (take i names ++ own ∷ [])) (sym grown)
          (touches-more before base (take i names) own w.in-Some.at c.loop-name.invariant (sym w.in-Some.ensures))
      | in_default w ↦
          let same : c.match-place.touched.items ≡ before = ap (λ (v : Vec ℕ Global). v.items) w.touched-is in
          subst (λ (ts : List ℕ). Touches ts base (take i names ++ own ∷ [])) (sym same) (touches-same before base (take i names) own c.loop-name.invariant (sym w.in_default.ensures))
    ])

pub returns : goal.returns
returns c = subst (λ (ns : List _). Touches c.loop-name.touched.items c.args.base.now ns) (take_all c.loop-name.name-index c.args.names.now c.loop-name-test.false) c.loop-name.invariant
