use Rattle.std.proofs.Common.{ap, sym, ◌∙◌, ◌<◌, ◌-◌, map, length, arith, slice_index_or}
use Rattle.std.proofs.lemmas.List.{length-map}
use Rattle.std.specs.Arc.{arc_value}
use Rattle.run_model.specs.declared.register.Answer.TheVariants as answer
use Rattle.run_model.specs.declared.register.Scheduled.{Scheduled}
use Rattle.mib_model.specs.Database.{no_rows}
use Rattle.edition_register.specs.Starts.{pair_of}
use Rattle.edition_register.proofs.KeptFacts.{looks-newest}
use Rattle.edition_register.proofs.StoredFacts.{tables-at, copied}
use Rattle.edition_register.proofs.editions.Editions.newest.Goals as goal

pub returns : goal.returns
returns g c =
    let s = c.args.self.now in
    let f = λ (a : _). g.E.Rows.tables (arc_value a) in
    let editions = map f s.handles.items in
    let used : Scheduled = record { from = s.from; edition = s.edition } in
    let waiting = map pair_of s.waiting.items in
    let long = length-map s.handles.items f in let ok = s.handles.ok.0 in let some = s.stands.0 in let stands = s.stands.1 in let count = c.count-edition.ensures in
    let e = c.count-edition.result in
    let lt : e - 1 < length s.handles.items = omega arith in
    let shown = ap g.E.Rows.tables (c.of-tables.ensures ∙ c.deref.ensures) ∙ tables-at f s.handles.items (e - 1) c.index-2.result.now lt c.index-2.ensures in
    let looks = looks-newest s.next editions used waiting s.before s.rises in
    record {
      does = record {
        gives = copied g.E.Rows.tables c.try_clone-handle.result _ c.index.result.now (tables-at f s.handles.items (e - 1) c.index.result.now lt c.index.ensures ∙ sym shown) c.try_clone-handle.ensures;
        reply = ap (answer.Drawn e) shown ∙ ap (λ n. answer.Drawn n (slice_index_or editions (n - 1) no_rows)) count ∙ looks.0;
        after = looks.1;
      };
    }
