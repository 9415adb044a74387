use Rattle.std.proofs.Common.{ap, sym, subst, ◌∙◌, ◌≡◌, ◌+◌, ◌-◌, map, arith, true}
use Rattle.std.proofs.lemmas.List.{length-map}
use Rattle.std.specs.Arc.{arc_value}
use Rattle.run_model.specs.declared.register.Answer.TheVariants as answer
use Rattle.run_model.specs.declared.register.Entry.TheVariants as event
use Rattle.run_model.specs.declared.register.Scheduled.{Scheduled}
use Rattle.run_model.specs.Register.{answer_to}
use Rattle.edition_register.specs.Bounded.{bounded_after}
use Rattle.edition_register.specs.Starts.{AllReady, IsStart, Rises, pair_of}
use Rattle.edition_register.specs.Stored.{begins}
use Rattle.edition_register.proofs.KeptFacts.{kept, begins-with}
use Rattle.edition_register.proofs.StoredFacts.{tables-at}
use Rattle.edition_register.proofs.editions.Editions.begin.Goals as goal

pub invariant_of-self-clause-before : goal.invariant_of-self-clause-before
invariant_of-self-clause-before g c =
    let s = c.args.self.now in
    let f = λ (a : _). g.E.Rows.tables (arc_value a) in
    let editions = map f s.handles.items in
    let used : Scheduled = record { from = s.from; edition = s.edition } in
    let waiting = map pair_of s.waiting.items in
    let p = c.in-Some.field-0 in let rest = c.pop_front.new.self.items in let items = c.in-Some.ensures.items in
    let ready = subst (AllReady g.E.Rows.tables g.B.MadeFor.made_for editions) items s.ready in
    let rises = subst (λ l. Rises s.next (map pair_of l)) items s.rises in
    let with = begins-with s.next editions used (pair_of p) (map pair_of rest) s.before rises
    (subst (λ l. begins (kept s.next editions used (map pair_of l)) ≡ true) items c.requires.begins) in
    let low = ready.0.0.0 in let high = ready.0.0.1 in let long = length-map s.handles.items f in
    let e = with.2 in omega arith

pub invariant_of-self-clause-stands : goal.invariant_of-self-clause-stands
invariant_of-self-clause-stands g c =
    let s = c.args.self.now in
    let f = λ (a : _). g.E.Rows.tables (arc_value a) in
    let editions = map f s.handles.items in
    let used : Scheduled = record { from = s.from; edition = s.edition } in
    let waiting = map pair_of s.waiting.items in
    let p = c.in-Some.field-0 in let rest = c.pop_front.new.self.items in let items = c.in-Some.ensures.items in
    let ready = subst (AllReady g.E.Rows.tables g.B.MadeFor.made_for editions) items s.ready in
    let rises = subst (λ l. Rises s.next (map pair_of l)) items s.rises in
    let with = begins-with s.next editions used (pair_of p) (map pair_of rest) s.before rises
    (subst (λ l. begins (kept s.next editions used (map pair_of l)) ≡ true) items c.requires.begins) in
    let low = ready.0.0.0 in let high = ready.0.0.1 in let long = length-map s.handles.items f in
    (low, omega arith)

pub invariant_of-self-clause-rises : goal.invariant_of-self-clause-rises
invariant_of-self-clause-rises g c =
    let s = c.args.self.now in
    let f = λ (a : _). g.E.Rows.tables (arc_value a) in
    let editions = map f s.handles.items in
    let used : Scheduled = record { from = s.from; edition = s.edition } in
    let waiting = map pair_of s.waiting.items in
    let p = c.in-Some.field-0 in let rest = c.pop_front.new.self.items in let items = c.in-Some.ensures.items in
    let ready = subst (AllReady g.E.Rows.tables g.B.MadeFor.made_for editions) items s.ready in
    let rises = subst (λ l. Rises s.next (map pair_of l)) items s.rises in
    let with = begins-with s.next editions used (pair_of p) (map pair_of rest) s.before rises
    (subst (λ l. begins (kept s.next editions used (map pair_of l)) ≡ true) items c.requires.begins) in
    let low = ready.0.0.0 in let high = ready.0.0.1 in let long = length-map s.handles.items f in
    subst (λ k. Rises (k + 1) (map pair_of rest)) with.2 rises.1

pub invariant_of-self-clause-ready : goal.invariant_of-self-clause-ready
invariant_of-self-clause-ready g c =
    let s = c.args.self.now in
    let f = λ (a : _). g.E.Rows.tables (arc_value a) in
    let editions = map f s.handles.items in
    let used : Scheduled = record { from = s.from; edition = s.edition } in
    let waiting = map pair_of s.waiting.items in
    let p = c.in-Some.field-0 in let rest = c.pop_front.new.self.items in let items = c.in-Some.ensures.items in
    let ready = subst (AllReady g.E.Rows.tables g.B.MadeFor.made_for editions) items s.ready in
    let rises = subst (λ l. Rises s.next (map pair_of l)) items s.rises in
    let with = begins-with s.next editions used (pair_of p) (map pair_of rest) s.before rises
    (subst (λ l. begins (kept s.next editions used (map pair_of l)) ≡ true) items c.requires.begins) in
    let low = ready.0.0.0 in let high = ready.0.0.1 in let long = length-map s.handles.items f in
    ready.1

pub returns : goal.returns
returns g c =
    let s = c.args.self.now in
    let f = λ (a : _). g.E.Rows.tables (arc_value a) in
    let editions = map f s.handles.items in
    let used : Scheduled = record { from = s.from; edition = s.edition } in
    let waiting = map pair_of s.waiting.items in
    let p = c.in-Some.field-0 in let rest = c.pop_front.new.self.items in let items = c.in-Some.ensures.items in
    let ready = subst (AllReady g.E.Rows.tables g.B.MadeFor.made_for editions) items s.ready in
    let rises = subst (λ l. Rises s.next (map pair_of l)) items s.rises in
    let with = begins-with s.next editions used (pair_of p) (map pair_of rest) s.before rises
    (subst (λ l. begins (kept s.next editions used (map pair_of l)) ≡ true) items c.requires.begins) in
    let low = ready.0.0.0 in let high = ready.0.0.1 in let long = length-map s.handles.items f in
    let shown = ap g.E.Rows.tables (c.of-tables.ensures ∙ c.deref.ensures) ∙ tables-at f s.handles.items (p.edition - 1) c.index.result.now (omega arith) c.index.ensures in
    record {
      does = record {
        gives = (sym c.requires.begins, subst (λ u. IsStart g.E.Rows.tables g.B.MadeFor.made_for u p.start) (sym shown) ready.0.1);
        reply = ap (answer.Stamped s.next p.edition) shown ∙ with.0 ∙ ap (λ l. answer_to (kept s.next editions used (map pair_of l)) event.Stamp) (sym items);
        after = with.1 ∙ ap (λ l. bounded_after (kept s.next editions used (map pair_of l)) event.Stamp) (sym items);
      };
    }
