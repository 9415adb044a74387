-- Packets that stand one behind the other.
use Rattle.std.proofs.Common.{◌≡◌, ◌∙◌, ℕ, zero, suc, ◌+◌, ◌<◌, ◌≤◌, List, [], ◌∷◌, ◌++◌, length, get_or, take, drop, refl, sym, ap, subst, arith, length-append}
use Rattle.std.proofs.Math.Seq.{drop-append_seam}
use Rattle.std.proofs.lemmas.List.{take-append-le, take_all}
use Rattle.packet_sheets.specs.Stretches.{AreEnds, StretchView, packets_in, start_from, stretch_in, with_packet}

-- as many packets as ends
pub packets-count : (octets : List ℕ) (start : ℕ) (ends : List ℕ) → length (packets_in octets start ends) ≡ length ends
packets-count octets start [] = refl
packets-count octets start (e ∷ ends) = ap suc (packets-count octets e ends)

pub ends_many : (octets ends : List ℕ) (view : StretchView) → stretch_in octets ends ≡ view → length ends ≡ length view.packets
ends_many octets ends view is = sym (packets-count octets 0 ends) ∙ ap (λ (s : StretchView). length s.packets) is

-- where packets begin isn't behind their end
pub ends-within : (start : ℕ) (ends : List ℕ) (end : ℕ) → AreEnds start ends end → start ≤ end
ends-within start [] end all = omega (arith, all)
ends-within start (e ∷ ends) end all = let rest = ends-within e ends end all.1 in omega (arith, all.0, rest)

-- one more end, behind the others
pub ends-more : (start : ℕ) (ends : List ℕ) (end last : ℕ) → AreEnds start ends end → end ≤ last → AreEnds start (ends ++ last ∷ []) last
ends-more start [] end last all after = (omega (arith, all, after), refl)
ends-more start (e ∷ ends) end last all after = (all.0, ends-more e ends end last all.1 after)

-- one more packet, behind the others
packets-more : (octets packet : List ℕ) (start : ℕ) (ends : List ℕ) (last : ℕ) → AreEnds start ends (length octets) → last ≡ length octets + length packet
    → packets_in (octets ++ packet) start (ends ++ last ∷ []) ≡ packets_in octets start ends ++ packet ∷ []
packets-more octets packet start [] last all here =
    let long : length (octets ++ packet) ≡ length octets + length packet = length-append octets packet in
    let whole = take_all last (octets ++ packet) (omega (arith, long, here)) in
    let behind : drop start (octets ++ packet) ≡ packet = ap (λ (n : ℕ). drop n (octets ++ packet)) all ∙ drop-append_seam octets packet in
    λ i. (ap (drop start) whole ∙ behind) i ∷ []
packets-more octets packet start (e ∷ ends) last all here =
    let front = take-append-le e octets packet (ends-within e ends (length octets) all.1) in
    let rest = packets-more octets packet e ends last all.1 here in
    λ i. drop start (front i) ∷ rest i

module _ (octets packet longer ends more : List ℕ) (last : ℕ) (all : AreEnds 0 ends (length octets)) (wrote : longer ≡ octets ++ packet) (here : last ≡ length longer) (noted : more ≡ ends ++ last ∷ []) where
  long : length longer ≡ length octets + length packet
  long = ap (λ (l : List ℕ). length l) wrote ∙ length-append octets packet

  -- the ends, with one more
  pub add-ends : AreEnds 0 more (length longer)
  add-ends = subst (λ (es : List ℕ). AreEnds 0 es (length longer)) (sym noted) (subst (λ (n : ℕ). AreEnds 0 (ends ++ last ∷ []) n) here (ends-more 0 ends (length octets) last all (omega (arith, here, long))))

  -- the packets, with one more
  pub add-packets : packets_in longer 0 more ≡ packets_in octets 0 ends ++ packet ∷ []
  add-packets = (λ i. packets_in (wrote i) 0 (noted i)) ∙ packets-more octets packet 0 ends last all (omega (arith, here, long))

  -- the stretch, with one more
  pub add-view : (old : StretchView) → stretch_in octets ends ≡ old → stretch_in longer more ≡ with_packet old packet
  add-view old view = (λ i. record { packets = add-packets i; size = long i }) ∙ ap (λ (s : StretchView). with_packet s packet) view

-- where a packet begins that isn't the first
pub start-behind : (start : ℕ) (ends : List ℕ) (k d : ℕ) → k < length ends → get_or ends k d ≡ start_from start ends (suc k)
start-behind start [] k d below = absurd (omega (arith, below))
start-behind start (e ∷ ends) zero d below = refl
start-behind start (e ∷ ends) (suc k) d below = start-behind e ends k d (omega (arith, below))

-- where a packet begins and ends
pub packet-bound : (octets : List ℕ) (start : ℕ) (ends : List ℕ) (k d : ℕ) → AreEnds start ends (length octets) → k < length ends
    → (start_from start ends k ≤ get_or ends k d) × (get_or ends k d ≤ length octets)
packet-bound octets start [] k d all below = absurd (omega (arith, below))
packet-bound octets start (e ∷ ends) zero d all below = (all.0, ends-within e ends (length octets) all.1)
packet-bound octets start (e ∷ ends) (suc k) d all below = packet-bound octets e ends k d all.1 (omega (arith, below))

-- a packet
pub packet-at : (octets : List ℕ) (start : ℕ) (ends : List ℕ) (k d : ℕ) (p : List ℕ) → k < length ends
    → drop (start_from start ends k) (take (get_or ends k d) octets) ≡ get_or (packets_in octets start ends) k p
packet-at octets start [] k d p below = absurd (omega (arith, below))
packet-at octets start (e ∷ ends) zero d p below = refl
packet-at octets start (e ∷ ends) (suc k) d p below = packet-at octets e ends k d p (omega (arith, below))
