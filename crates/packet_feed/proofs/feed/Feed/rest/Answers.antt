use Rattle.std.proofs.Common.{◌+◌, ◌-◌, ◌≡◌, ◌≤◌, ◌<◌, ◌++◌, ◌∙◌, ℕ, List, length, take, drop, arith, ap, sym, length-take, length-drop, length-append}
use Rattle.std.proofs.KnownBytes.{Consumes-trans}
use Rattle.mib_model.specs.Headers.{header_of}
use Rattle.packet_feed.proofs.Cutting.{whole-is_packet, part-begins_none, taken_whole, take-packet, packet_fits, header-append, header-take}
use Rattle.packet_feed.proofs.feed.Feed.rest.Goals as goal

-- the room for the octets that are still to come
body_size : (into body : List ℕ) (front size : ℕ) → front ≤ size → size ≤ 65542 → length into ≡ 65542 → length body ≡ length (take (size - front) (drop front into))
    → length body ≡ size - front
body_size into body front size some fits all is = omega (arith, is, some, fits, all, length-take (size - front) (drop front into), length-drop front into)

-- the header of what was read already
head_size : (into : List ℕ) (front : ℕ) → front ≤ 65542 → length into ≡ 65542 → length (take front into) ≡ front
head_size into front fits all = omega (arith, fits, all, length-take front into)

pub returns-in_default-clause-gives : goal.returns-in_default-clause-gives
returns-in_default-clause-gives g c = λ left within taken.
    let into = c.args.into.now in
    let head = take c.args.front into in
    let size = head_size into c.args.front c.requires.front c.requires.length in
    let six : 6 ≤ length head = omega (arith, size, c.requires.some) in
    let field : (header_of head).length ≡ (header_of into).length = ap (λ h. h.length) (header-take into c.args.front c.requires.some) in
    let (count, less, more) = c.in_default.ensures.part in
    let body = take count c.fill.new.buf in
    let room = body_size into c.fill.new.buf c.args.front c.packet_size-size.result (omega (arith, c.if-size-front.false)) c.packet_size-size.ensures.fits c.requires.length c.fill.auto.buf in
    let part : length head + length body < 7 + (header_of head).length =
    omega (arith, size, less, room, field, c.if-size-front.false, c.packet_size-size.ensures.size, ap (λ h. h.length) c.header_at-header.ensures, length-take count c.fill.new.buf) in
    (head ++ body, part-begins_none head body six part, Consumes-trans left _ _ head body taken more)

pub returns-then-front-body-clause-gives : goal.returns-then-front-body-clause-gives
returns-then-front-body-clause-gives g c = λ left within taken.
    let into = c.args.into.now in
    let head = take c.args.front into in
    let size = head_size into c.args.front c.requires.front c.requires.length in
    let six : 6 ≤ length head = omega (arith, size, c.requires.some) in
    let field : (header_of head).length ≡ (header_of into).length = ap (λ h. h.length) (header-take into c.args.front c.requires.some) in
    let body = take c.in-Ok.body c.fill.new.buf in
    let room = body_size into c.fill.new.buf c.args.front c.packet_size-size.result (omega (arith, c.if-size-front.false)) c.packet_size-size.ensures.fits c.requires.length c.fill.auto.buf in
    let count : length body ≡ c.in-Ok.body = omega (arith, length-take c.in-Ok.body c.fill.new.buf, c.in-Ok.ensures.fits) in
    let part : length head + length body < 7 + (header_of head).length =
    omega (arith, size, count, c.if-front-body.true, field, c.packet_size-size.ensures.size, ap (λ h. h.length) c.header_at-header.ensures) in (
      head ++ body,
      omega (arith, length-append head body, size, count),
      omega (arith, c.requires.some),
      part-begins_none head body six part,
      Consumes-trans left _ _ head body taken c.in-Ok.ensures.octets,
      c.in-Ok.ensures.end (omega (arith, room, c.if-front-body.true)),
    )

pub returns-clause-gives : goal.returns-clause-gives
returns-clause-gives g c = λ left within taken.
    let into = c.args.into.now in
    let head = take c.args.front into in
    let body = c.fill.new.buf in
    let size = head_size into c.args.front c.requires.front c.requires.length in
    let six : 6 ≤ length head = omega (arith, size, c.requires.some) in
    let field : (header_of head).length ≡ (header_of into).length = ap (λ h. h.length) (header-take into c.args.front c.requires.some) in
    let room = body_size into body c.args.front c.packet_size-size.result (omega (arith, c.if-size-front.false)) c.packet_size-size.ensures.fits c.requires.length c.fill.auto.buf in
    let all : c.args.front + length body ≡ c.packet_size-size.result = omega (arith, room, c.if-size-front.false) in
    let more = taken_whole _ _ body c.in-Ok.body (omega (arith, room, c.if-front-body.false)) c.in-Ok.ensures.octets in
    let packet = take-packet into body c.args.front c.packet_size-size.result (c.packet_size-size.result - c.args.front) (omega (arith, c.requires.front, c.requires.length)) all in (
      packet_fits _ (head ++ body) c.packet_size-size.result packet (omega (arith, length-append head body, size, all)),
      rw packet (whole-is_packet head body six (omega (arith, size, all, field, c.packet_size-size.ensures.size, ap (λ h. h.length) c.header_at-header.ensures))),
      rw packet (Consumes-trans left _ _ head body taken more),
      rw packet (c.header_at-header.ensures ∙ (sym (header-take into c.args.front c.requires.some) ∙ sym (header-append head body six))),
    )
