use Rattle.std.proofs.Common.{ap, sym, subst, refl, ◌∙◌, ◌∷◌, [], ◌≡◌, ◌+◌, ◌-◌, map, length, arith}
use Rattle.std.proofs.lemmas.Bool.{le-leb, lt-leb}
use Rattle.std.proofs.lemmas.List.{map-append, length-map}
use Rattle.std.specs.Arc.{arc_value}
use Rattle.run_model.specs.declared.register.Answer.TheVariants as answer
use Rattle.run_model.specs.declared.register.Scheduled.{Scheduled}
use Rattle.edition_register.specs.Starts.{AllReady, pair_of}
use Rattle.edition_register.proofs.KeptFacts.{kept, add-full, add-takes}
use Rattle.edition_register.proofs.StoredFacts.{ready-more}
use Rattle.edition_register.proofs.editions.Editions.add.Goals as goal

pub returns-then-len-ge-MOST_EDITIONS : goal.returns-then-len-ge-MOST_EDITIONS
returns-then-len-ge-MOST_EDITIONS g c =
    let s = c.args.self.now in
    let f = λ (a : _). g.E.Rows.tables (arc_value a) in
    let editions = map f s.handles.items in
    let used : Scheduled = record { from = s.from; edition = s.edition } in
    let waiting = map pair_of s.waiting.items in
    let long = length-map s.handles.items f in
    let full = add-full s.next editions used waiting s.before s.rises (f c.args.payload) (g.E.Rows.plans (arc_value c.args.payload)) (le-leb 64 (length editions) (omega arith)) in
    record { does = record { gives = refl; reply = full.0; after = full.1 } }

pub invariant_of-self-clause-ready : goal.invariant_of-self-clause-ready
invariant_of-self-clause-ready g c =
    let s = c.args.self.now in
    let f = λ (a : _). g.E.Rows.tables (arc_value a) in
    subst (λ l. AllReady g.E.Rows.tables g.B.MadeFor.made_for l s.waiting.items) (sym (ap (map f) c.push_reserved.ensures.items ∙ map-append f s.handles.items (c.args.payload ∷ [])))
    (ready-more g.E.Rows.tables g.B.MadeFor.made_for (map f s.handles.items) (f c.args.payload) s.waiting.items s.ready)

pub returns : goal.returns
returns g c =
    let s = c.args.self.now in
    let f = λ (a : _). g.E.Rows.tables (arc_value a) in
    let editions = map f s.handles.items in
    let used : Scheduled = record { from = s.from; edition = s.edition } in
    let waiting = map pair_of s.waiting.items in
    let long = length-map s.handles.items f in
    let more = c.push_reserved.ensures.items in let now = c.push_reserved.new.self.ok.0 in let lens = ap length more in
    let takes = add-takes s.next editions used waiting (f c.args.payload) (g.E.Rows.plans (arc_value c.args.payload)) s.before s.rises (lt-leb 64 (length editions) (omega arith)) in
    record {
      does = record {
        gives = tt;
        reply = ap answer.Added (let e : c.len-2.result ≡ length editions + 1 = omega arith in e) ∙ takes.0;
        after = ap (λ l. kept s.next l used waiting) (ap (map f) more ∙ map-append f s.handles.items (c.args.payload ∷ [])) ∙ takes.1;
      };
    }
