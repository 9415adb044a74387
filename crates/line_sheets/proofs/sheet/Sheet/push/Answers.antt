use Rattle.std.proofs.Common.{◌≡◌, ◌++◌, ◌∷◌, [], List, ℕ, ap, arith, length, length-append}
use Rattle.line_sheets.specs.declared.sheet.SheetEvent.{SheetEvent}
use Rattle.line_sheets.proofs.LyingFacts.{events_many, push-held, push-view}
use Rattle.line_sheets.proofs.sheet.Sheet.push.Goals as goal

pub note_raw-requires : goal.note_raw-requires
note_raw-requires c =
    let sheet = c.self.inside in
    let inv = c.self.invariant in
    let many = events_many sheet.text sheet.events.items sheet.raws.items sheet.counts.items c.args.self.now c.self.view_is in
    record { room = omega (arith, c.requires, many, inv.2, inv.4, inv.7) }

pub note_count-requires : goal.note_count-requires
note_count-requires c =
    let sheet = c.self.inside in
    let inv = c.self.invariant in
    let many = events_many sheet.text sheet.events.items sheet.raws.items sheet.counts.items c.args.self.now c.self.view_is in
    record { room = omega (arith, c.requires, many, inv.2, inv.5, inv.8) }

pub push_reserved-requires : goal.push_reserved-requires
push_reserved-requires c =
    let sheet = c.self.inside in
    let inv = c.self.invariant in
    let many = events_many sheet.text sheet.events.items sheet.raws.items sheet.counts.items c.args.self.now c.self.view_is in
    omega (arith, c.requires, many, inv.2, inv.6)

pub invariant_of-self : goal.invariant_of-self
invariant_of-self c =
    let sheet = c.self.inside in
    let inv = c.self.invariant in
    let e : SheetEvent = record { at = length c.bytes.result.now; seat = c.args.seat; deed = c.args.deed } in
    let many = events_many sheet.text sheet.events.items sheet.raws.items sheet.counts.items c.args.self.now c.self.view_is in
    let long : length c.push_reserved.new.self.items ≡ length (sheet.events.items ++ e ∷ []) = ap (λ (l : List SheetEvent). length l) c.push_reserved.ensures.items in
    let more = length-append sheet.events.items (e ∷ []) in (
      push-held sheet.text sheet.events.items c.push_reserved.new.self.items sheet.raws.items c.note_raw.new.raws.items sheet.counts.items c.note_count.new.counts.items inv.0
          (length c.bytes.result.now) c.args.seat c.args.deed c.args.raw c.args.number (ap (λ (l : List ℕ). length l) c.bytes.ensures) c.push_reserved.ensures.items c.note_raw.ensures.items c.note_count.ensures.items,
      inv.1,
      omega (arith, inv.2, long, more, c.push_reserved.ensures.len),
      omega (arith, c.requires, many, inv.2, c.push_reserved.ensures.len),
      omega (arith, inv.4, c.note_raw.ensures.few, c.push_reserved.ensures.len),
      omega (arith, inv.5, c.note_count.ensures.few, c.push_reserved.ensures.len),
      omega (arith, inv.6, c.push_reserved.ensures.capacity),
      omega (arith, inv.7, c.note_raw.ensures.capacity),
      omega (arith, inv.8, c.note_count.ensures.capacity),
    )

pub returns : goal.returns
returns c =
    let sheet = c.self.inside in
    push-view sheet.text sheet.events.items c.push_reserved.new.self.items sheet.raws.items c.note_raw.new.raws.items sheet.counts.items c.note_count.new.counts.items c.self.invariant.0
    (length c.bytes.result.now) c.args.seat c.args.deed c.args.raw c.args.number (ap (λ (l : List ℕ). length l) c.bytes.ensures) c.push_reserved.ensures.items c.note_raw.ensures.items c.note_count.ensures.items c.args.self.now c.self.view_is
