use Rattle.std.proofs.Common.{◌≡◌, ◌≤◌, ◌++◌, ◌∷◌, [], List, ℕ, ap, arith, length, length-append, subst, sym}
use Rattle.std.specs.List.{All}
use Rattle.std.proofs.lemmas.List.Elements.{All-push}
use Rattle.mib_model.specs.Packets.{IsPacket}
use Rattle.packet_feed.specs.declared.feed.TheConstants.{PACKET_SIZE}
use Rattle.packet_sheets.specs.Stretches.{StretchView, packets_in}
use Rattle.packet_sheets.proofs.StretchFacts.{add-ends, add-packets, add-view, ends_many}
use Rattle.packet_sheets.proofs.stretch.Stretch.add.Goals as goal

pub append-requires : goal.append-requires
append-requires c =
    let inv = c.self.invariant in
    let size = ap (λ (s : StretchView). s.size) c.self.view_is in
    omega (arith, inv.3, inv.6, size, c.requires.size, c.requires.short)

pub push_reserved-requires : goal.push_reserved-requires
push_reserved-requires c =
    let stretch = c.self.inside in
    let inv = c.self.invariant in
    let many = ends_many stretch.octets.items stretch.ends.items c.args.self.now c.self.view_is in
    omega (arith, c.requires.few, many, inv.4, inv.7)

pub invariant_of-self : goal.invariant_of-self
invariant_of-self c =
    let stretch = c.self.inside in
    let inv = c.self.invariant in
    let old = stretch.octets.items in
    let ends = stretch.ends.items in
    let packet = c.args.packet.now in
    let new = c.append.new.octets.items in
    let more = c.push_reserved.new.self.items in
    let last = length c.deref-octets.result.now in
    let here : last ≡ length new = ap (λ (l : List ℕ). length l) c.deref-octets.ensures.value in
    let all = add-packets old packet new ends more last inv.0 c.append.ensures.items here c.push_reserved.ensures.items in
    let size = ap (λ (s : StretchView). s.size) c.self.view_is in
    let many = ends_many old ends c.args.self.now c.self.view_is in
    let long : length new ≡ length (old ++ packet) = ap (λ (l : List ℕ). length l) c.append.ensures.items in
    let both = length-append old packet in
    let ended : length more ≡ length (ends ++ last ∷ []) = ap (λ (l : List ℕ). length l) c.push_reserved.ensures.items in
    let one = length-append ends (last ∷ []) in (
      add-ends old packet new ends more last inv.0 c.append.ensures.items here c.push_reserved.ensures.items,
      subst (λ (ps : List (List ℕ)). All IsPacket ps) (sym all) (All-push IsPacket (packets_in old 0 ends) packet inv.1 c.requires.packet),
      omega (arith, long, both, size, c.requires.size, c.requires.short),
      omega (arith, c.append.ensures.len, inv.3, long, both),
      omega (arith, c.push_reserved.ensures.len, inv.4, ended, one),
      omega (arith, c.push_reserved.ensures.len, inv.4, many, c.requires.few),
      omega (arith, inv.6, c.append.ensures.capacity),
      omega (arith, inv.7, c.push_reserved.ensures.capacity),
      subst (λ (ps : List (List ℕ)). All (λ (p : List ℕ). length p ≤ PACKET_SIZE) ps) (sym all)
          (All-push (λ (p : List ℕ). length p ≤ PACKET_SIZE) (packets_in old 0 ends) packet inv.8 c.requires.short),
    )

pub returns : goal.returns
returns c =
    let stretch = c.self.inside in
    let new = c.append.new.octets.items in
    add-view stretch.octets.items c.args.packet.now new stretch.ends.items c.push_reserved.new.self.items (length c.deref-octets.result.now) c.self.invariant.0 c.append.ensures.items
    (ap (λ (l : List ℕ). length l) c.deref-octets.ensures.value) c.push_reserved.ensures.items c.args.self.now c.self.view_is
