use Rattle.std.proofs.Common.{◌∙◌, ◌+◌, List, ℕ, arith, refl, sym, subst, take}
use Rattle.std.proofs.lemmas.List.{take_all}
use Rattle.edition_plans.specs.Params.{param_slices}
use Rattle.param_state.specs.ParamPlans.{plan_names}
use Rattle.line_sheets.specs.Drawings.{IsSheetFor}
use Rattle.line_sheets.specs.Sheets.{SheetView, no_sheet}
use Rattle.mib_model.specs.Interpreter.{StampedPacket, stamped_first, stamped_from}
use Rattle.packet_sheets.proofs.SheetFacts.{sheet-more, sheet-none, stamped-next, stamped-none}
use Rattle.packet_sheets.proofs.drawing.draw_stretch.Goals as goal

pub loop-k-init : goal.loop-k-init
loop-k-init g c =
    let db = g.P.Structures.tables c.args.plans.now in
    let names = plan_names (param_slices db) in
    record {
      drawn = λ asked demanded.
          subst (λ (s : SheetView). IsSheetFor asked db names (stamped_from db c.args.number (take 0 c.args.stretch.now.packets)) s) (sym c.clear.ensures)
          (subst (λ (ss : List StampedPacket). IsSheetFor asked db names ss no_sheet) (sym (stamped-none db c.args.number)) (sheet-none asked db names));
    }

pub loop-k-preserved : goal.loop-k-preserved
loop-k-preserved g c =
    let db = g.P.Structures.tables c.args.plans.now in
    let names = plan_names (param_slices db) in
    let number = c.args.number in
    let packets = c.args.stretch.now.packets in
    let k = c.loop-k.k in
    let packet = c.packet-packet.result.now in
    let next = stamped-next db number packets k packet (omega (arith, c.loop-k-test.true, c.len-count.ensures)) (c.packet-packet.ensures.packet packet) in
    record {
      drawn = λ asked demanded.
          subst (λ (ss : List StampedPacket). IsSheetFor asked db names ss c.draw_next.new.sheet) (sym next)
          (sheet-more asked db names (stamped_from db number (take k packets)) (stamped_first db (number + k, packet)) c.loop-k.sheet c.draw_next.new.sheet
          (c.loop-k.invariant.drawn asked demanded) (c.draw_next.ensures.drawn c.if-not-draw_next.false asked (stamped_first db (number + k, packet)) demanded (record { number = refl; packet = refl; tables = refl })));
    }

pub returns-then-not-draw_next-clause-drawn : goal.returns-then-not-draw_next-clause-drawn
returns-then-not-draw_next-clause-drawn g c = λ asked demanded.
    let db = g.P.Structures.tables c.args.plans.now in
    subst (λ (s : SheetView). IsSheetFor asked db (plan_names (param_slices db)) (stamped_from db c.args.number (take c.loop-k.k c.args.stretch.now.packets)) s)
    (sym (c.draw_next.ensures.full c.if-not-draw_next.true)) (c.loop-k.invariant.drawn asked demanded)

pub returns-clause-drawn : goal.returns-clause-drawn
returns-clause-drawn g c = λ asked demanded.
    let db = g.P.Structures.tables c.args.plans.now in
    let packets = c.args.stretch.now.packets in
    let all = take_all c.loop-k.k packets (omega (arith, c.loop-k-test.false, c.len-count.ensures)) in
    let whole = take_all c.len-count.result packets (omega (arith, c.len-count.ensures)) in
    subst (λ (ps : List (List ℕ)). IsSheetFor asked db (plan_names (param_slices db)) (stamped_from db c.args.number ps) c.loop-k.sheet) (all ∙ sym whole)
    (c.loop-k.invariant.drawn asked demanded)
