use Rattle.std.proofs.Common.{ap, sym, subst, ◌∙◌, ◌∷◌, [], ◌++◌, ◌+◌, ◌-◌, map, arith}
use Rattle.std.specs.Arc.{arc_value}
use Rattle.run_model.specs.declared.register.Answer.TheVariants as answer
use Rattle.run_model.specs.declared.register.Scheduled.{Scheduled}
use Rattle.edition_register.specs.Starts.{AllReady, IsReady, Rises, pair_of}
use Rattle.edition_register.specs.Stored.{state_of, FitsUse}
use Rattle.edition_register.proofs.KeptFacts.{kept, use-none, use-takes}
use Rattle.edition_register.proofs.RegisterFacts.{has_edition-stands}
use Rattle.edition_register.proofs.editions.Editions.use_now.Goals as goal

pub returns-in_default : goal.returns-in_default
returns-in_default g c =
    let s = c.args.self.now in
    let f = λ (a : _). g.E.Rows.tables (arc_value a) in
    let editions = map f s.handles.items in
    let used : Scheduled = record { from = s.from; edition = s.edition } in
    let waiting = map pair_of s.waiting.items in
    let fits = subst (FitsUse g.E.Rows.tables g.B.MadeFor.made_for (state_of s) c.args.edition) c.in_default.is c.requires.fits in
    let none = use-none s.next editions used waiting s.before s.rises c.args.edition fits in
    record { does = record { gives = sym c.in_default.is; reply = ap answer.NoEdition c.count-count.ensures ∙ none.0; after = none.1 } }

pub invariant_of-self-clause-ready : goal.invariant_of-self-clause-ready
invariant_of-self-clause-ready g c =
    let s = c.args.self.now in
    let f = λ (a : _). g.E.Rows.tables (arc_value a) in
    let editions = map f s.handles.items in
    let used : Scheduled = record { from = s.from; edition = s.edition } in
    let waiting = map pair_of s.waiting.items in
    let fits = subst (FitsUse g.E.Rows.tables g.B.MadeFor.made_for (state_of s) c.args.edition) c.in-Some.is c.requires.fits in
    let stands = has_edition-stands (state_of s) c.args.edition fits.0 in
    let ready : IsReady g.E.Rows.tables g.B.MadeFor.made_for editions (record { from = s.next; edition = c.args.edition; start = c.in-Some.start }) = (stands, fits.1) in
    let items = c.push_back_reserved.ensures.items ∙ ap (λ l. l ++ (record { from = s.next; edition = c.args.edition; start = c.in-Some.start }) ∷ []) c.clear.ensures.items in
    subst (AllReady g.E.Rows.tables g.B.MadeFor.made_for editions) (sym items) (ready, tt)

pub invariant_of-self-clause-rises : goal.invariant_of-self-clause-rises
invariant_of-self-clause-rises g c =
    let s = c.args.self.now in
    let f = λ (a : _). g.E.Rows.tables (arc_value a) in
    let editions = map f s.handles.items in
    let used : Scheduled = record { from = s.from; edition = s.edition } in
    let waiting = map pair_of s.waiting.items in
    let items = c.push_back_reserved.ensures.items ∙ ap (λ l. l ++ (record { from = s.next; edition = c.args.edition; start = c.in-Some.start }) ∷ []) c.clear.ensures.items in
    subst (λ l. Rises s.next (map pair_of l)) (sym items) (omega arith, tt)

pub returns : goal.returns
returns g c =
    let s = c.args.self.now in
    let f = λ (a : _). g.E.Rows.tables (arc_value a) in
    let editions = map f s.handles.items in
    let used : Scheduled = record { from = s.from; edition = s.edition } in
    let waiting = map pair_of s.waiting.items in
    let fits = subst (FitsUse g.E.Rows.tables g.B.MadeFor.made_for (state_of s) c.args.edition) c.in-Some.is c.requires.fits in
    let items = c.push_back_reserved.ensures.items ∙ ap (λ l. l ++ (record { from = s.next; edition = c.args.edition; start = c.in-Some.start }) ∷ []) c.clear.ensures.items in
    let takes = use-takes s.next editions used waiting s.before s.rises c.args.edition fits.0 in
    record { does = record { gives = tt; reply = takes.0; after = ap (λ l. kept s.next editions used (map pair_of l)) items ∙ takes.1 } }
