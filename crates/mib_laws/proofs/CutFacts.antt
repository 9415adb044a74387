-- Each feed is cut into packets.
use Rattle.std.proofs.Common.{◌≡◌, ℕ, zero, suc, ◌+◌, ◌≤◌, ◌<◌, Bool, true, false, List, [], ◌∷◌, ◌++◌, length, take, drop, nat_le, refl, sym, ap, ◌∙◌, arith, append_assoc, length-take, get_or-take}
use Rattle.std.proofs.lemmas.List.{length-drop, take-append-drop}
use Rattle.std.specs.List.{concat}
use Rattle.std.proofs.lemmas.Bool.{leb-true, leb-false}
use Rattle.std.proofs.lemmas.List.Elements.{All-nil, All-cons}
use Rattle.mib_model.specs.Headers.{header_of}
use Rattle.mib_model.specs.Packets.{IsPacket, BeginsNoPacket, IsCut}

-- the length field stands in the first six octets
length_field-take : (octets : List ℕ) (n : ℕ) → 6 ≤ n → (header_of (take n octets)).length ≡ (header_of octets).length
length_field-take octets n long =
    let four : 4 < n = omega arith in
    let five : 5 < n = omega arith in
    rw (get_or-take n octets 4 0 four, get_or-take n octets 5 0 five) refl

-- octets that are too few for their header begin no packet
too_few : (octets : List ℕ) → length octets < 7 + (header_of octets).length → BeginsNoPacket octets
too_few octets few n fits packet =
    let long : 6 ≤ n = omega (arith, packet, length-take n octets) in
    absurd (omega (arith, packet, few, fits, length-take n octets, length_field-take octets n long))

-- the front of octets that are enough is a packet
front-packet : (octets : List ℕ) → 7 + (header_of octets).length ≤ length octets → IsPacket (take (7 + (header_of octets).length) octets)
front-packet octets enough =
    let n = 7 + (header_of octets).length in
    omega (arith, enough, length-take n octets, length_field-take octets n (omega arith))

abbrev Cut : List ℕ → Type 0
Cut feed = (packets : List (List ℕ)) × (rest : List ℕ) × IsCut feed packets rest

-- a packet in front of octets that are cut
one_more : (feed packet others : List ℕ) → IsPacket packet → packet ++ others ≡ feed → Cut others → Cut feed
one_more feed packet others is whole (packets, rest, cut) = (
  packet ∷ packets,
  rest,
  record {
    whole = sym whole ∙ ap (λ o. packet ++ o) cut.whole ∙ sym (append_assoc packet (concat packets) rest);
    each = All-cons IsPacket packet packets is cut.each;
    begins_none = cut.begins_none;
  },
)

-- octets are cut where all shorter ones are
decide : (feed : List ℕ) → ((others : List ℕ) → length others < length feed → Cut others) → (b : Bool) → nat_le (7 + (header_of feed).length) (length feed) ≡ b → Cut feed
decide feed behind false few = ([], feed, record { whole = refl; each = All-nil IsPacket; begins_none = too_few feed (leb-false (7 + (header_of feed).length) (length feed) few) })
decide feed behind true enough =
    let n = 7 + (header_of feed).length in
    let le = leb-true n (length feed) enough in
    one_more feed (take n feed) (drop n feed) (front-packet feed le) (take-append-drop n feed)
    (behind (drop n feed) (omega (arith, le, length-drop n feed)))

cut-within : (size : ℕ) (feed : List ℕ) → length feed < size → Cut feed
cut-within zero feed short = absurd (omega (arith, short))
cut-within (suc size) feed short =
    decide feed (λ others less. cut-within size others (omega (arith, short, less))) (nat_le (7 + (header_of feed).length) (length feed)) refl

pub each-cut : (feed : List ℕ) → Cut feed
each-cut feed = cut-within (1 + length feed) feed (omega arith)
