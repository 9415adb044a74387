use Rattle.std.proofs.Common.{◌++◌, List, ℕ, ap, append-nil}
use Rattle.std.specs.List.{flat_map}
use Rattle.mib_model.specs.Finish.{all_finished}
use Rattle.mib_model.specs.Kept.{all_entered}
use Rattle.std.specs.Option.{option_copied}
use Rattle.mib_model.specs.Texts.{ended_text, head_text, told_text}
use Rattle.param_state.specs.ParamPlans.{plan_names}
use Rattle.line_sheets.proofs.AskedFacts.{for-exact, for-same, for-text, for-then, values-alike}
use Rattle.line_sheets.proofs.PlaceFacts.{covers-values}
use Rattle.line_sheets.proofs.sheet.Sheet.draw.Goals as goal

pub returns-clause-drawn : goal.returns-clause-drawn
returns-clause-drawn c = λ ok asked db plans demanded raws has.
    let params = c.args.params.now in
    let names = plan_names params in
    let old = c.args.self.now in
    let headed = c.add_head.new.self in
    let entered = c.enter_all.new.self in
    let lined = c.add_all.new.self in
    let ended = c.add_end.new.self in
    let seen = c.args.seen.now in
    let packet = seen.packet.now in
    let vs = seen.values.now in
    let first = head_text seen.number seen.header.now seen.found.now (option_copied seen.title) in
    let last = ended_text seen.ended.now in
    let head = for-text asked db names old headed first c.add_head.ensures.text in
    let end = for-text asked db names lined ended last c.add_end.ensures.text in
    let covers = covers-values asked db params vs plans demanded.covers has in
    let lines = for-exact asked db names entered lined _ (c.add_all.ensures.added asked db plans demanded.noted raws has) (values-alike asked db packet vs covers) in
    let front = for-then asked db names old headed entered _ _ head (c.enter_all.ensures.added asked db demanded.noted.places raws has) in
    let body = for-then asked db names old entered lined _ _ front lines in
    for-same asked db names old ended _ _ (for-then asked db names old lined ended _ _ body end) (λ memory.
    let done = all_finished db (all_entered memory vs) vs in
    ap (λ (t : List ℕ). (done.0, t ++ flat_map (told_text packet) done.1 ++ last)) (append-nil first))
