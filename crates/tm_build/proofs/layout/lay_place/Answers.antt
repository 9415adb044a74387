use Rattle.std.proofs.Common.{◌≡◌, ◌∙◌, ◌+◌, ℤ, pos, true, Ok, Err, ◌++◌, ◌∷◌, [], ap, sym, arith}
use Rattle.std.proofs.lemmas.Bool.{ne_eqb, lt-ltb}
use Rattle.std.proofs.lemmas.Int.{to_z-of_z}
use Rattle.tm_build.proofs.LayFacts.{lays-many, lays-none, lays-value, pushed}
use Rattle.tm_build.proofs.layout.lay_place.Goals as goal
use mir.Val.{to_z, of_z}
use mir.Syntax.{w128}

pub returns-then-values-eq-MOST_VALUES-clause-lays : goal.returns-then-values-eq-MOST_VALUES-clause-lays
returns-then-values-eq-MOST_VALUES-clause-lays g c rest = lays-many _ _ _ _ rest c.if-values-eq-MOST_VALUES.true

pub returns-in-Err-clause-lays : goal.returns-in-Err-clause-lays
returns-in-Err-clause-lays g c rest =
    let cursor : to_z w128 (of_z w128 c.from.result) ≡ pos c.args.at = (let e : to_z w128 (of_z w128 c.from.result) ≡ c.from.result = grind (arith, to_z-of_z) in e ∙ c.from.ensures) in
    lays-none _ _ _ _ rest c.in-Err.why (ne_eqb _ _ c.if-values-eq-MOST_VALUES.false)
    (ap (λ (x : ℤ). g.N.Numbers.source c.args.numbers.now x (record { name = c.args.name; shape = c.args.shape; moves = 0 }) c.args.values.now.used) (sym cursor) ∙ (sym c.value.ensures ∙ c.in-Err.is))

pub returns-in-Ok-clause-lays : goal.returns-in-Ok-clause-lays
returns-in-Ok-clause-lays g c rest =
    let cursor : to_z w128 (of_z w128 c.from.result) ≡ pos c.args.at = (let e : to_z w128 (of_z w128 c.from.result) ≡ c.from.result = grind (arith, to_z-of_z) in e ∙ c.from.ensures) in
    let room : c.push.result ≡ true = c.push.ensures.room ∙ lt-ltb _ _ (omega (arith, c.requires.slots.used, c.if-values-eq-MOST_VALUES.false)) in
    lays-value _ _ _ _ rest c.in-Ok.value (ne_eqb _ _ c.if-values-eq-MOST_VALUES.false)
    (ap (λ (x : ℤ). g.N.Numbers.source c.args.numbers.now x (record { name = c.args.name; shape = c.args.shape; moves = 0 }) c.args.values.now.used) (sym cursor) ∙ (sym c.value.ensures ∙ c.in-Ok.is))
    ∙ pushed _ _ _ _ _ _ _ rest room c.push.ensures.taken c.push.ensures.used
