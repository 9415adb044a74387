-- Octets are cut into packets and a rest in one way.
use Rattle.std.proofs.Common.{◌≡◌, ◌<◌, ℕ, List, [], ◌∷◌, ◌++◌, length, take, drop, refl, sym, ap, ◌∙◌, append_assoc, arith, length-append}
use Rattle.std.specs.List.{concat}
use Rattle.std.proofs.lemmas.List.{get_or_append_left, take_at, drop_at}
use Rattle.std.proofs.lemmas.List.Elements.{All-head, All-tail}
use Rattle.mib_model.specs.Headers.{header_of}
use Rattle.mib_model.specs.Packets.{IsPacket, BeginsNoPacket, IsCut}

-- the length field of a packet is that of octets that begin with it
length_field-packet : (packet rest : List ℕ) → IsPacket packet → (header_of (packet ++ rest)).length ≡ (header_of packet).length
length_field-packet packet rest is =
    let four : 4 < length packet = omega (arith, is) in
    let five : 5 < length packet = omega (arith, is) in
    rw (get_or_append_left packet rest 0 4 four, get_or_append_left packet rest 0 5 five) refl

-- of two packets that begin the same octets each is the other
pub same_packet : (p q x y : List ℕ) → IsPacket p → IsPacket q → p ++ x ≡ q ++ y → (p ≡ q) × (x ≡ y)
same_packet p q x y is_p is_q same =
    let fields : (header_of p).length ≡ (header_of q).length =
    sym (length_field-packet p x is_p) ∙ ap (λ octets. (header_of octets).length) same ∙ length_field-packet q y is_q in
    let lengths : length q ≡ length p = omega (arith, is_p, is_q, fields) in (
      sym (take_at p x (length p) refl) ∙ ap (take (length p)) same ∙ take_at q y (length p) lengths,
      sym (drop_at p x (length p) refl) ∙ ap (drop (length p)) same ∙ drop_at q y (length p) lengths,
    )

-- a rest doesn't begin with a packet
no_packet : (rest packet more : List ℕ) → BeginsNoPacket rest → IsPacket packet → rest ≡ packet ++ more → ⊥
no_packet rest packet more none is begins =
    none (length packet) (omega (arith, ap length begins, length-append packet more)) (rw (begins, take_at packet more (length packet) refl) is)

-- octets that are a packet and then others, and are cut otherwise
front : (feed packet : List ℕ) (packets : List (List ℕ)) (rest : List ℕ) → IsCut feed (packet ∷ packets) rest → feed ≡ packet ++ (concat packets ++ rest)
front feed packet packets rest cut = cut.whole ∙ append_assoc packet (concat packets) rest

behind : (feed packet : List ℕ) (packets : List (List ℕ)) (rest others : List ℕ) → IsCut feed (packet ∷ packets) rest → others ≡ concat packets ++ rest → IsCut others packets rest
behind feed packet packets rest others cut is = record { whole = is; each = All-tail IsPacket packet packets cut.each; begins_none = cut.begins_none }

pub cut-unique : (feed : List ℕ) (packets others : List (List ℕ)) (rest more : List ℕ)
    → IsCut feed packets rest → IsCut feed others more → (packets ≡ others) × (rest ≡ more)
cut-unique feed [] [] rest more a b = (refl, sym a.whole ∙ b.whole)
cut-unique feed [] (q ∷ qs) rest more a b =
    absurd (no_packet rest q (concat qs ++ more) a.begins_none (All-head IsPacket q qs b.each) (sym a.whole ∙ front feed q qs more b))
cut-unique feed (p ∷ ps) [] rest more a b =
    absurd (no_packet more p (concat ps ++ rest) b.begins_none (All-head IsPacket p ps a.each) (sym b.whole ∙ front feed p ps rest a))
cut-unique feed (p ∷ ps) (q ∷ qs) rest more a b =
    let (first, others) = same_packet p q (concat ps ++ rest) (concat qs ++ more) (All-head IsPacket p ps a.each) (All-head IsPacket q qs b.each)
    (sym (front feed p ps rest a) ∙ front feed q qs more b) in
    let (further, rests) = cut-unique (concat ps ++ rest) ps qs rest more (behind feed p ps rest _ a refl) (behind feed q qs more _ b others) in
    ((λ i. first i ∷ further i), rests)
