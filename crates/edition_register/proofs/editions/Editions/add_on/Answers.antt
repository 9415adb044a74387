use Rattle.std.proofs.Common.{ap, sym, refl, ◌∙◌, ◌-◌, map, length}
use Rattle.std.proofs.lemmas.Bool.{eq-eqb}
use Rattle.std.specs.Arc.{arc_value}
use Rattle.run_model.specs.declared.register.Answer.TheVariants as answer
use Rattle.run_model.specs.declared.register.Scheduled.{Scheduled}
use Rattle.edition_register.specs.Starts.{pair_of}
use Rattle.edition_register.specs.Stored.{state_of}
use Rattle.edition_register.proofs.KeptFacts.{add-on, add-stale}
use Rattle.edition_register.proofs.StoredFacts.{added-on, differ}
use Rattle.edition_register.proofs.editions.Editions.add_on.Goals as goal

pub returns-then-base-newest : goal.returns-then-base-newest
returns-then-base-newest g c =
    let s = c.args.self.now in
    let f = λ (a : _). g.E.Rows.tables (arc_value a) in
    let editions = map f s.handles.items in
    let used : Scheduled = record { from = s.from; edition = s.edition } in
    let waiting = map pair_of s.waiting.items in
    let stale = add-stale s.next editions used waiting s.before s.rises c.args.base (f c.args.payload) (g.E.Rows.plans (arc_value c.args.payload)) (differ c.args.base (length editions) (λ h. c.if-base-newest.true (h ∙ sym c.count-newest.ensures))) in
    record { does = record { gives = refl; reply = ap answer.Stale c.count-newest.ensures ∙ stale.0; after = stale.1 } }

pub returns : goal.returns
returns g c =
    let s = c.args.self.now in
    let f = λ (a : _). g.E.Rows.tables (arc_value a) in
    let editions = map f s.handles.items in
    let used : Scheduled = record { from = s.from; edition = s.edition } in
    let waiting = map pair_of s.waiting.items in
    let on = add-on s.next editions used waiting s.before s.rises c.args.base (f c.args.payload) (g.E.Rows.plans (arc_value c.args.payload)) (eq-eqb c.args.base (length editions) (c.if-base-newest.false ∙ c.count-newest.ensures)) in
    let does = c.add.ensures.does in
    record { does = record { gives = added-on g.E.Rows.tables g.B.MadeFor.made_for (state_of s) c.args.base c.args.payload c.add.result does.gives; reply = does.reply ∙ on.0; after = does.after ∙ on.1 } }
