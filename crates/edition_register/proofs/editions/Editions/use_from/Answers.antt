use Rattle.std.proofs.Common.{ap, sym, subst, ◌∙◌, ◌∷◌, [], ◌≡◌, ◌-◌, map, length, arith, false, nat_le}
use Rattle.std.proofs.lemmas.Bool.{le-leb, lt-leb, lt-ltb, le-ltb}
use Rattle.std.proofs.lemmas.List.{map-append, length-map}
use Rattle.std.specs.Arc.{arc_value}
use Rattle.run_model.specs.declared.register.Answer.TheVariants as answer
use Rattle.run_model.specs.declared.register.Scheduled.{Scheduled}
use Rattle.edition_register.specs.declared.start.Pending.{Pending}
use Rattle.edition_register.specs.Starts.{AllReady, Rises, pair_of}
use Rattle.edition_register.specs.Stored.{state_of, FitsUse}
use Rattle.edition_register.proofs.KeptFacts.{kept, use_from-none, use_from-late, use_from-disorder, use_from-full, use_from-takes, from-rises}
use Rattle.edition_register.proofs.StoredFacts.{ready-one}
use Rattle.edition_register.proofs.RegisterFacts.{has_edition-stands}
use Rattle.edition_register.proofs.editions.Editions.use_from.Goals as goal

pub returns-in_default : goal.returns-in_default
returns-in_default g c =
    let s = c.args.self.now in
    let f = λ (a : _). g.E.Rows.tables (arc_value a) in
    let editions = map f s.handles.items in
    let used : Scheduled = record { from = s.from; edition = s.edition } in
    let waiting = map pair_of s.waiting.items in
    let fits = subst (FitsUse g.E.Rows.tables g.B.MadeFor.made_for (state_of s) c.args.edition) c.in_default.is c.requires.fits in
    let none = use_from-none s.next editions used waiting s.before s.rises c.args.edition c.args.from fits in
    record { does = record { gives = sym c.in_default.is; reply = ap answer.NoEdition c.count-count.ensures ∙ none.0; after = none.1 } }

pub returns-then-from-next : goal.returns-then-from-next
returns-then-from-next g c =
    let s = c.args.self.now in
    let f = λ (a : _). g.E.Rows.tables (arc_value a) in
    let editions = map f s.handles.items in
    let used : Scheduled = record { from = s.from; edition = s.edition } in
    let waiting = map pair_of s.waiting.items in
    let fits = subst (FitsUse g.E.Rows.tables g.B.MadeFor.made_for (state_of s) c.args.edition) c.in-Some.is c.requires.fits in
    let late = use_from-late s.next editions used waiting s.before s.rises c.args.edition c.args.from fits.0 (lt-ltb c.args.from s.next c.if-from-next.true) in
    record { does = record { gives = sym c.in-Some.is; reply = late.0; after = late.1 } }

pub returns-in-Some-disorder : goal.returns-in-Some-disorder
returns-in-Some-disorder g c =
    let s = c.args.self.now in
    let f = λ (a : _). g.E.Rows.tables (arc_value a) in
    let editions = map f s.handles.items in
    let used : Scheduled = record { from = s.from; edition = s.edition } in
    let waiting = map pair_of s.waiting.items in
    let fits = subst (FitsUse g.E.Rows.tables g.B.MadeFor.made_for (state_of s) c.args.edition) c.in-Some.is c.requires.fits in
    let late = le-ltb c.args.from s.next c.if-from-next.false in
    let e = c.in-Some-disorder.ensures in
    let dis = use_from-disorder s.next editions used waiting s.before s.rises c.args.edition c.args.from c.in-Some-disorder.last fits.0 late (sym e.0) e.1 in
    record { does = record { gives = sym c.in-Some.is; reply = dis.0; after = dis.1 } }

pub returns-then-len-ge-MOST_PENDING : goal.returns-then-len-ge-MOST_PENDING
returns-then-len-ge-MOST_PENDING g c =
    let s = c.args.self.now in
    let f = λ (a : _). g.E.Rows.tables (arc_value a) in
    let editions = map f s.handles.items in
    let used : Scheduled = record { from = s.from; edition = s.edition } in
    let waiting = map pair_of s.waiting.items in
    let fits = subst (FitsUse g.E.Rows.tables g.B.MadeFor.made_for (state_of s) c.args.edition) c.in-Some.is c.requires.fits in
    let late = le-ltb c.args.from s.next c.if-from-next.false in
    let room = length-map s.waiting.items pair_of in let ok = s.waiting.ok.0 in
    let full = use_from-full s.next editions used waiting s.before s.rises c.args.edition c.args.from fits.0 late c.in_default-disorder.ensures (le-leb 16 (length waiting) (omega arith)) in
    record { does = record { gives = sym c.in-Some.is; reply = full.0; after = full.1 } }

pub invariant_of-self-clause-rises : goal.invariant_of-self-clause-rises
invariant_of-self-clause-rises g c =
    let s = c.args.self.now in
    let f = λ (a : _). g.E.Rows.tables (arc_value a) in
    let editions = map f s.handles.items in
    let used : Scheduled = record { from = s.from; edition = s.edition } in
    let waiting = map pair_of s.waiting.items in
    let fits = subst (FitsUse g.E.Rows.tables g.B.MadeFor.made_for (state_of s) c.args.edition) c.in-Some.is c.requires.fits in
    let late = le-ltb c.args.from s.next c.if-from-next.false in
    let room = length-map s.waiting.items pair_of in let ok = s.waiting.ok.0 in
    let full : nat_le 16 (length waiting) ≡ false = lt-leb 16 (length waiting) (omega arith) in
    let p : Pending _ _ = record { from = c.args.from; edition = c.args.edition; start = c.in-Some.start } in
    let items = c.push_back_reserved.ensures.items in
    subst (Rises s.next) (sym (ap (map pair_of) items ∙ map-append pair_of s.waiting.items (p ∷ []))) (from-rises s.next editions used waiting s.before s.rises c.args.edition c.args.from late c.in_default-disorder.ensures)

pub invariant_of-self-clause-ready : goal.invariant_of-self-clause-ready
invariant_of-self-clause-ready g c =
    let s = c.args.self.now in
    let f = λ (a : _). g.E.Rows.tables (arc_value a) in
    let editions = map f s.handles.items in
    let used : Scheduled = record { from = s.from; edition = s.edition } in
    let waiting = map pair_of s.waiting.items in
    let fits = subst (FitsUse g.E.Rows.tables g.B.MadeFor.made_for (state_of s) c.args.edition) c.in-Some.is c.requires.fits in
    let late = le-ltb c.args.from s.next c.if-from-next.false in
    let room = length-map s.waiting.items pair_of in let ok = s.waiting.ok.0 in
    let full : nat_le 16 (length waiting) ≡ false = lt-leb 16 (length waiting) (omega arith) in
    let p : Pending _ _ = record { from = c.args.from; edition = c.args.edition; start = c.in-Some.start } in
    let items = c.push_back_reserved.ensures.items in
    let stands = has_edition-stands (state_of s) c.args.edition fits.0 in
    subst (AllReady g.E.Rows.tables g.B.MadeFor.made_for editions) (sym items) (ready-one g.E.Rows.tables g.B.MadeFor.made_for editions s.waiting.items p s.ready (stands, fits.1))

pub returns : goal.returns
returns g c =
    let s = c.args.self.now in
    let f = λ (a : _). g.E.Rows.tables (arc_value a) in
    let editions = map f s.handles.items in
    let used : Scheduled = record { from = s.from; edition = s.edition } in
    let waiting = map pair_of s.waiting.items in
    let fits = subst (FitsUse g.E.Rows.tables g.B.MadeFor.made_for (state_of s) c.args.edition) c.in-Some.is c.requires.fits in
    let late = le-ltb c.args.from s.next c.if-from-next.false in
    let room = length-map s.waiting.items pair_of in let ok = s.waiting.ok.0 in
    let full : nat_le 16 (length waiting) ≡ false = lt-leb 16 (length waiting) (omega arith) in
    let p : Pending _ _ = record { from = c.args.from; edition = c.args.edition; start = c.in-Some.start } in
    let items = c.push_back_reserved.ensures.items in
    let takes = use_from-takes s.next editions used waiting s.before s.rises c.args.edition c.args.from fits.0 late c.in_default-disorder.ensures full in
    record { does = record { gives = tt; reply = takes.0; after = ap (λ l. kept s.next editions used l) (ap (map pair_of) items ∙ map-append pair_of s.waiting.items (p ∷ [])) ∙ takes.1 } }
