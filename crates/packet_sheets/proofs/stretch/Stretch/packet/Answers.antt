use Rattle.std.proofs.Common.{◌≡◌, ◌∙◌, ◌≤◌, List, ℕ, ap, arith, drop, get_or, length, subst, sym, take}
use Rattle.mib_model.specs.Packets.{IsPacket}
use Rattle.packet_feed.specs.declared.feed.TheConstants.{PACKET_SIZE}
use Rattle.packet_sheets.specs.Stretches.{StretchView, packets_in, start_from}
use Rattle.packet_sheets.proofs.StretchFacts.{ends_many, packet-at, packet-bound, packets-count}
use Rattle.packet_sheets.proofs.stretch.Stretch.packet.Goals as goal

pub start_of-requires : goal.start_of-requires
start_of-requires c =
    let stretch = c.self.inside in
    let many = ends_many stretch.octets.items stretch.ends.items c.args.self.now c.self.view_is in
    let same : length c.deref-ends.result.now ≡ length stretch.ends.items = ap (λ (l : List ℕ). length l) c.deref-ends.ensures.value in
    omega (arith, c.requires, many, same)

pub end_of-requires : goal.end_of-requires
end_of-requires c =
    let stretch = c.self.inside in
    let many = ends_many stretch.octets.items stretch.ends.items c.args.self.now c.self.view_is in
    let same : length c.deref-ends.result.now ≡ length stretch.ends.items = ap (λ (l : List ℕ). length l) c.deref-ends.ensures.value in
    omega (arith, c.requires, many, same)

pub part-requires : goal.part-requires
part-requires c =
    let stretch = c.self.inside in
    let k = c.args.k in
    let many = ends_many stretch.octets.items stretch.ends.items c.args.self.now c.self.view_is in
    let bound = packet-bound stretch.octets.items 0 stretch.ends.items k 0 c.self.invariant.0 (omega (arith, c.requires, many)) in
    let start : c.start_of.result ≡ start_from 0 stretch.ends.items k = c.start_of.ensures ∙ ap (λ (es : List ℕ). start_from 0 es k) c.deref-ends.ensures.value in
    let end : c.end_of.result ≡ get_or stretch.ends.items k 0 = c.end_of.ensures 0 ∙ ap (λ (es : List ℕ). get_or es k 0) c.deref-ends.ensures.value in
    let long : length c.deref-octets.result.now ≡ length stretch.octets.items = ap (λ (l : List ℕ). length l) c.deref-octets.ensures.value in
    record { order = omega (arith, bound.0, start, end); within = omega (arith, bound.1, end, long) }

pub returns : goal.returns
returns c =
    let stretch = c.self.inside in
    let k = c.args.k in
    let octets = stretch.octets.items in
    let ends = stretch.ends.items in
    let many = ends_many octets ends c.args.self.now c.self.view_is in
    let count = packets-count octets 0 ends in
    let start : c.start_of.result ≡ start_from 0 ends k = c.start_of.ensures ∙ ap (λ (es : List ℕ). start_from 0 es k) c.deref-ends.ensures.value in
    let end : c.end_of.result ≡ get_or ends k 0 = c.end_of.ensures 0 ∙ ap (λ (es : List ℕ). get_or es k 0) c.deref-ends.ensures.value in
    let is : (d : List ℕ) → c.part.result.now ≡ get_or (packets_in octets 0 ends) k d =
    λ d. c.part.ensures ∙ ((λ i. drop (start i) (take (end i) (c.deref-octets.ensures.value i))) ∙ packet-at octets 0 ends k 0 d (omega (arith, c.requires, many))) in
    let here = is c.part.result.now in
    record {
      packet = λ d. is d ∙ ap (λ (s : StretchView). get_or s.packets k d) c.self.view_is;
      whole = subst IsPacket (sym here) (c.self.invariant.1 k c.part.result.now (omega (arith, c.requires, many, count)));
      short = subst (λ (p : List ℕ). length p ≤ PACKET_SIZE) (sym here) (c.self.invariant.8 k c.part.result.now (omega (arith, c.requires, many, count)));
    }
