-- The packets of a generated run, one by one.
use Rattle.std.proofs.Common.{◌≡◌, ℕ, zero, suc, ◌+◌, ◌*◌, [], ◌∷◌, ◌++◌, map, take, get_or, refl, ap, sym, ◌∙◌, arith}
use Rattle.std.proofs.lemmas.List.FromFn.{map-range_with_len_more}
use Rattle.std.proofs.lemmas.List.Folds.{concat-append}
use Rattle.std.proofs.lemmas.List.{append-nil}
use Rattle.std.proofs.lemmas.List.Elements.{All-map}
use Rattle.std.specs.List.{concat, range_with_len}
use Rattle.tm_drill.specs.Draws.{state_after}
use Rattle.tm_drill.specs.Feed.{drill_packet, packet_octets, packet_behind, first_packets}
use Rattle.mib_model.specs.Packets.{IsPacket, BeginsNoPacket, IsCut}

-- three draws more
pub three-more : (seed n : ℕ) → state_after (state_after seed (3 * n)) 3 ≡ state_after seed (3 * (n + 1))
unfolding state_after
three-more seed n =
    let at : suc (suc (suc (3 * n))) ≡ 3 * (n + 1) = omega arith in
    ap (state_after seed) at

-- one packet more
pub one-more : (seed n : ℕ) → concat (first_packets seed (n + 1)) ≡ concat (first_packets seed n) ++ packet_behind (state_after seed (3 * n)) n
unfolding first_packets
one-more seed n =
    ap concat (map-range_with_len_more (drill_packet seed) 0 n n (omega arith)) ∙ (concat-append (map (drill_packet seed) (range_with_len 0 n)) (drill_packet seed n ∷ [])
    ∙ ap (λ p. concat (map (drill_packet seed) (range_with_len 0 n)) ++ p) (append-nil (drill_packet seed n)))

-- no packet yet
pub none-yet : (seed : ℕ) → concat (first_packets seed 0) ≡ []
unfolding first_packets
none-yet seed = refl

-- how a loop over the packets goes on
pub ruleset packet_steps = (three-more, one-more)

is-packet : (state index : ℕ) → IsPacket (packet_behind state index)
unfolding packet_behind packet_octets
is-packet state index = refl

nothing-begins : BeginsNoPacket []
nothing-begins n few = elim n as (λ m. IsPacket (take m []) → ⊥) [ zero ↦ λ is. absurd (omega (arith, is)) | suc k ↦ λ is. absurd (omega (arith, is)) ]

-- the packets are those into which the feed is cut
pub packets-cut : (seed count : ℕ) → IsCut (concat (first_packets seed count)) (first_packets seed count) []
unfolding first_packets
packets-cut seed count = record {
  whole = sym (append-nil (concat (first_packets seed count)));
  each = All-map IsPacket (drill_packet seed) (range_with_len 0 count) (λ k d h. is-packet (state_after seed (3 * get_or (range_with_len 0 count) k d)) (get_or (range_with_len 0 count) k d));
  begins_none = nothing-begins;
}
