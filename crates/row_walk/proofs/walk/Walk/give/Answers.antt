use Rattle.std.proofs.Common.{◌≡◌, ◌∙◌, ◌≢◌, ◌<◌, ◌^◌, ◌∷◌, [], List, ap, arith, length, subst, sym}
use Rattle.std.proofs.lemmas.Grind.{common_steps}
use Rattle.std.proofs.lemmas.List.Elements.{All-append, All-cons, All-nil}
use Rattle.std.specs.List.{All}
use Rattle.mib_model.specs.declared.packet.Value.{Value}
use Rattle.mib_model.specs.Fixed.{most_values}
use Rattle.mib_model.specs.Walk.{Walking}
use Rattle.row_interpreter.specs.Readings.{IsOf}
use Rattle.row_walk.proofs.WalkFacts.{always, moved-reach, one-fits, there-is-of}
use Rattle.row_walk.proofs.walk.Walk.give.Goals as goal

pub returns-clause-reach : goal.returns-clause-reach
returns-clause-reach c =
    always c.go_on.result _
    (moved-reach c.args.self.now.cursor c.go_on.new.self.cursor c.moved_by.result (omega arith) (c.go_on.ensures.cursor ∙ ap (λ (w : Walking). w.cursor) c.in_ok-take.ensures))

pub returns-clause-few : goal.returns-clause-few
returns-clause-few c =
    always c.go_on.result _
    (one-fits c.args.self.now.values c.go_on.new.self.values c.in-Some.value (let room = c.if-len.false in grind (arith, common_steps)) c.requires.few
    (c.go_on.ensures.values ∙ ap (λ (w : Walking). w.values) c.in_ok-take.ensures))

pub returns-clause-all : goal.returns-clause-all
returns-clause-all c =
    let is = there-is-of c.args.packet.now _ _ c.args.shape c.in-Some.value (sym c.in-Some.is ∙ c.value_at.ensures) in
    always c.go_on.result _
    (subst (All (IsOf c.args.packet.now)) (sym (c.go_on.ensures.values ∙ ap (λ (w : Walking). w.values) c.in_ok-take.ensures))
    (All-append (IsOf c.args.packet.now) c.args.self.now.values (c.in-Some.value ∷ []) c.requires.all (All-cons (IsOf c.args.packet.now) c.in-Some.value [] is (All-nil (IsOf c.args.packet.now)))))
