use Rattle.std.proofs.Common.{sym, refl, ◌∙◌, ◌-◌, map, arith, None}
use Rattle.std.specs.Arc.{arc_value}
use Rattle.run_model.specs.declared.register.Scheduled.{Scheduled}
use Rattle.edition_register.specs.Starts.{pair_of}
use Rattle.edition_register.proofs.KeptFacts.{last-kept}
use Rattle.edition_register.proofs.StoredFacts.{last-is}
use Rattle.edition_register.proofs.editions.Editions.last.Goals as goal

pub returns : goal.returns
returns g c =
    let s = c.args.self.now in
    let f = λ (a : _). g.E.Rows.tables (arc_value a) in
    let editions = map f s.handles.items in
    let used : Scheduled = record { from = s.from; edition = s.edition } in
    let waiting = map pair_of s.waiting.items in
    let e = c.in_ok-last.ensures in let ok = s.waiting.ok.0 in let some = e.variant.0 refl in
    last-is s.waiting.items None (s.waiting.len - 1) c.in_ok-last.last.now (omega arith) e.lookup ∙ sym (last-kept s.next editions used waiting s.before s.rises)
