use Rattle.std.proofs.Common.{ap, sym, refl, ◌∙◌, ◌-◌, map, arith}
use Rattle.std.proofs.lemmas.List.{length-map}
use Rattle.std.specs.Arc.{arc_value}
use Rattle.run_model.specs.declared.register.Answer.TheVariants as answer
use Rattle.run_model.specs.declared.register.Scheduled.{Scheduled}
use Rattle.edition_register.specs.Starts.{pair_of}
use Rattle.edition_register.specs.Stored.{state_of}
use Rattle.edition_register.proofs.KeptFacts.{look-none, look-found}
use Rattle.edition_register.proofs.StoredFacts.{tables-at, copied}
use Rattle.edition_register.proofs.RegisterFacts.{has_edition-stands}
use Rattle.edition_register.proofs.editions.Editions.look.Goals as goal

pub returns-then-not-has : goal.returns-then-not-has
returns-then-not-has g c =
    let s = c.args.self.now in
    let f = λ (a : _). g.E.Rows.tables (arc_value a) in
    let editions = map f s.handles.items in
    let used : Scheduled = record { from = s.from; edition = s.edition } in
    let waiting = map pair_of s.waiting.items in
    let none = look-none s.next editions used waiting s.before s.rises c.args.edition (sym c.if-not-has.ensures) in
    record { does = record { gives = refl; reply = ap answer.NoEdition c.count-count.ensures ∙ none.0; after = none.1 } }

pub returns : goal.returns
returns g c =
    let s = c.args.self.now in
    let f = λ (a : _). g.E.Rows.tables (arc_value a) in
    let editions = map f s.handles.items in
    let used : Scheduled = record { from = s.from; edition = s.edition } in
    let waiting = map pair_of s.waiting.items in
    let has = sym c.if-not-has.ensures in
    let stands = has_edition-stands (state_of s) c.args.edition has in let low = stands.0 in let high = stands.1 in let long = length-map s.handles.items f in
    let shown = ap g.E.Rows.tables (c.of-tables.ensures ∙ c.deref.ensures) ∙ tables-at f s.handles.items (c.args.edition - 1) c.index-2.result.now (omega arith) c.index-2.ensures in
    let found = look-found s.next editions used waiting s.before s.rises c.args.edition has in
    record { does = record { gives = copied g.E.Rows.tables c.try_clone-handle.result _ c.index.result.now (tables-at f s.handles.items (c.args.edition - 1) c.index.result.now (omega arith) c.index.ensures ∙ sym shown) c.try_clone-handle.ensures; reply = ap (answer.Drawn c.args.edition) shown ∙ found.0; after = found.1 } }
