use Rattle.std.proofs.Common.{List, ℕ, ◌∙◌, ◌+◌, ◌++◌, drop, get_or, ap, sym, arith}
use Rattle.std.specs.List.{flat_map, zip}
use Rattle.display_pages.specs.declared.page.Page.{Page}
use Rattle.display_pages.specs.Pages.{cell_text, no_cell, page_text}
use Rattle.page_texts.proofs.TextFacts.{cells-next, cells-over, goes-on, on-err, part-of, wrote-all, wrote-part}
use Rattle.page_texts.proofs.page_text.write_page.Goals as goal

pub returns-in_err-make_room-clause-part : goal.returns-in_err-make_room-clause-part
returns-in_err-make_room-clause-part g c =
    let names : List (List ℕ) = c.args.names.now in let page : Page = c.args.page.now in
    let rest = flat_map cell_text (zip (drop c.loop-place.place names) (drop c.loop-place.place page.cells)) in
    on-err c.from_residual.result _
    (part-of (page_text names page) c.loop-place.line rest (g.S.Sink.written c.args.screen.now) (g.S.Sink.written c.loop-place.screen) (g.S.Sink.written c.make_room.new.screen)
    c.loop-place.invariant.passed c.in_err-make_room.ensures.part)

pub loop-place-preserved : goal.loop-place-preserved
loop-place-preserved g c =
    let names : List (List ℕ) = c.args.names.now in let page : Page = c.args.page.now in let at : ℕ = c.loop-place.place in
    let rest = flat_map cell_text (zip (drop at names) (drop at page.cells)) in
    let later = flat_map cell_text (zip (drop (at + 1) names) (drop (at + 1) page.cells)) in
    let name : List ℕ = c.index-names-place.result in
    let long = c.fits-page.1.1.0.1.0.1 in let inside = c.loop-place-test.true in let few = c.requires in
    let next = cells-next names page.cells at name no_cell inside (omega (arith, inside, few, long)) in
    record {
      passed =
          goes-on (page_text names page) c.loop-place.line c.make_room.new.line (cell_text (name, get_or page.cells at no_cell)) rest later c.add_cell.new.out
          (g.S.Sink.written c.args.screen.now) (g.S.Sink.written c.loop-place.screen) (g.S.Sink.written c.make_room.new.screen)
          (next ∙ ap (λ (n : List ℕ). cell_text (n, get_or page.cells at no_cell) ++ later) (sym c.index-names-place.is)) c.add_cell.ensures.text
          c.loop-place.invariant.passed c.in_ok-make_room.ensures.passed;
      faults = c.in_ok-make_room.ensures.cause.ok ∙ c.loop-place.invariant.faults;
      borrow = c.make_room.ensures.borrow ∙ c.loop-place.invariant.borrow;
    }

pub returns-clause-all : goal.returns-clause-all
returns-clause-all g c =
    let names : List (List ℕ) = c.args.names.now in let page : Page = c.args.page.now in
    let rest = flat_map cell_text (zip (drop c.loop-place.place names) (drop c.loop-place.place page.cells)) in
    wrote-all c.hand_on.result (page_text names page) c.loop-place.line rest (g.S.Sink.written c.args.screen.now) (g.S.Sink.written c.loop-place.screen) (g.S.Sink.written c.hand_on.new.screen)
    (cells-over names page.cells c.loop-place.place c.loop-place-test.false) c.loop-place.invariant.passed c.hand_on.ensures.all

pub returns-clause-part : goal.returns-clause-part
returns-clause-part g c =
    let names : List (List ℕ) = c.args.names.now in let page : Page = c.args.page.now in
    let rest = flat_map cell_text (zip (drop c.loop-place.place names) (drop c.loop-place.place page.cells)) in
    wrote-part c.hand_on.result (page_text names page) c.loop-place.line rest (g.S.Sink.written c.args.screen.now) (g.S.Sink.written c.loop-place.screen) (g.S.Sink.written c.hand_on.new.screen)
    c.loop-place.invariant.passed c.hand_on.ensures.part
