use Rattle.std.proofs.Common.{sym, refl, ◌∙◌, ◌-◌, map, length, arith}
use Rattle.std.specs.Arc.{arc_value}
use Rattle.run_model.specs.declared.register.Scheduled.{Scheduled}
use Rattle.edition_register.specs.Starts.{pair_of}
use Rattle.edition_register.proofs.KeptFacts.{begins-kept}
use Rattle.edition_register.proofs.StoredFacts.{first-is, first-none, zero-is}
use Rattle.edition_register.proofs.editions.Editions.begins.Goals as goal

pub returns-in-Some : goal.returns-in-Some
returns-in-Some g c =
    let s = c.args.self.now in
    let f = λ (a : _). g.E.Rows.tables (arc_value a) in
    let editions = map f s.handles.items in
    let used : Scheduled = record { from = s.from; edition = s.edition } in
    let waiting = map pair_of s.waiting.items in
    let e = c.in-Some.ensures in
    let ok = s.waiting.ok.0 in let some = e.variant.0 refl in
    first-is s.next s.waiting.items c.in-Some.first.now (omega arith) e.lookup ∙ sym (begins-kept s.next editions used waiting s.before s.rises)

pub returns-in-None : goal.returns-in-None
returns-in-None g c =
    let s = c.args.self.now in
    let f = λ (a : _). g.E.Rows.tables (arc_value a) in
    let editions = map f s.handles.items in
    let used : Scheduled = record { from = s.from; edition = s.edition } in
    let waiting = map pair_of s.waiting.items in
    let ok = s.waiting.ok.0 in let none = c.in-None.ensures.variant.1 in
    first-none s.next s.waiting.items (zero-is (length s.waiting.items) (λ lt. none (omega arith))) ∙ sym (begins-kept s.next editions used waiting s.before s.rises)
