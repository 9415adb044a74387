use Rattle.std.proofs.Common.{ap, sym, ◌∙◌, ◌-◌, map, arith}
use Rattle.std.specs.Arc.{arc_value}
use Rattle.run_model.specs.declared.register.Answer.TheVariants as answer
use Rattle.run_model.specs.declared.register.Scheduled.{Scheduled}
use Rattle.edition_register.specs.Starts.{pair_of}
use Rattle.edition_register.proofs.KeptFacts.{goes-on, rises-on, begins-kept}
use Rattle.edition_register.proofs.StoredFacts.{tables-at}
use Rattle.edition_register.proofs.editions.Editions.go_on.Goals as goal

pub invariant_of-self-clause-rises : goal.invariant_of-self-clause-rises
invariant_of-self-clause-rises g c =
    let s = c.args.self.now in
    let f = λ (a : _). g.E.Rows.tables (arc_value a) in
    let editions = map f s.handles.items in
    let used : Scheduled = record { from = s.from; edition = s.edition } in
    let waiting = map pair_of s.waiting.items in
    rises-on s.next waiting (sym (begins-kept s.next editions used waiting s.before s.rises) ∙ c.requires.begins) s.rises

pub returns : goal.returns
returns g c =
    let s = c.args.self.now in
    let f = λ (a : _). g.E.Rows.tables (arc_value a) in
    let editions = map f s.handles.items in
    let used : Scheduled = record { from = s.from; edition = s.edition } in
    let waiting = map pair_of s.waiting.items in
    let on = goes-on s.next editions used waiting s.before s.rises c.requires.begins in
    let low = s.stands.0 in let high = s.stands.1 in let ok = s.handles.ok.0 in
    let shown = ap g.E.Rows.tables (c.of-tables.ensures ∙ c.deref.ensures) ∙ tables-at f s.handles.items (s.edition - 1) c.index.result.now (omega arith) c.index.ensures in
    record { does = record { gives = (sym c.requires.begins, tt); reply = ap (answer.Stamped s.next s.edition) shown ∙ on.0; after = on.1 } }
