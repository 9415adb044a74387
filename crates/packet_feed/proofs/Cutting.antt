-- Octets that begin with a header.
use Rattle.std.proofs.Common.{◌≡◌, ◌≤◌, ◌<◌, ◌+◌, ℕ, List, [], ◌++◌, length, take, Option, Some, None, IfSome, arith, refl, sym, ◌∙◌, ap, length-append, length-take, get_or-take}
use Rattle.std.proofs.lemmas.List.{take_at, take_all}
use Rattle.std.specs.Io.{StartsWith}
use Rattle.std.proofs.lemmas.Slice.{take-put_mid}
use borrow.Rule.Slice.PartMut.{put_mid}
use Rattle.std.specs.Io.KnownBytes.{Consumes}
use Rattle.mib_model.specs.declared.packet.Header.{Header}
use Rattle.mib_model.specs.Headers.{header_of}
use Rattle.packet_feed.specs.Feed.{BeginsWithPacket}
use Rattle.mib_model.specs.Packets.{IsPacket, BeginsNoPacket}

-- the header stands in the first six octets
pub header-take : (octets : List ℕ) (n : ℕ) → 6 ≤ n → header_of (take n octets) ≡ header_of octets
header-take octets n long =
    let zeroth : 0 < n = omega arith in
    let first : 1 < n = omega arith in
    let second : 2 < n = omega arith in
    let third : 3 < n = omega arith in
    let fourth : 4 < n = omega arith in
    let fifth : 5 < n = omega arith in
    rw (get_or-take n octets 0 0 zeroth, get_or-take n octets 1 0 first, get_or-take n octets 2 0 second, get_or-take n octets 3 0 third, get_or-take n octets 4 0 fourth, get_or-take n octets 5 0 fifth) refl

pub header-append : (head body : List ℕ) → 6 ≤ length head → header_of (head ++ body) ≡ header_of head
header-append head body six = sym (header-take (head ++ body) (length head) six) ∙ ap header_of (take_at head body (length head) refl)

length_field-take : (octets : List ℕ) (n : ℕ) → 6 ≤ n → (header_of (take n octets)).length ≡ (header_of octets).length
length_field-take octets n long = ap (λ h. h.length) (header-take octets n long)

length_field-append : (head body : List ℕ) → 6 ≤ length head → (header_of (head ++ body)).length ≡ (header_of head).length
length_field-append head body six = ap (λ h. h.length) (header-append head body six)

-- octets whose first ones are a packet
pub begins_with : (left : Option (List ℕ)) (hand : List ℕ) (size : ℕ) (header : Header) → 6 ≤ length hand → size ≡ 7 + header.length → header ≡ header_of hand → size ≤ length hand
    → IfSome left (λ octets. StartsWith octets hand) → IfSome left BeginsWithPacket
begins_with None hand size header six is same there starts = tt
begins_with (Some octets) hand size header six is same there starts =
    let long : length hand ≤ length octets = omega (arith, ap length starts, length-take (length hand) octets) in
    let field = length_field-take octets size (omega (arith, is)) ∙ sym (length_field-take octets (length hand) six) ∙ ap (λ h. h.length) (ap header_of starts ∙ sym same) in
    (size, omega (arith, long, there), omega (arith, is, field, long, there, length-take size octets))

-- a header, some octets behind it and the others that its length field asks for are a packet, and fewer begin none
pub whole-is_packet : (head body : List ℕ) → 6 ≤ length head → length head + length body ≡ 7 + (header_of head).length → IsPacket (head ++ body)
whole-is_packet head body six whole = omega (arith, whole, length-append head body, length_field-append head body six)

pub part-begins_none : (head body : List ℕ) → 6 ≤ length head → length head + length body < 7 + (header_of head).length → BeginsNoPacket (head ++ body)
part-begins_none head body six part n fits packet =
    let long : 7 ≤ n = omega (arith, packet, length-take n (head ++ body)) in
    let field = length_field-take (head ++ body) n (omega arith) ∙ length_field-append head body six in
    absurd (omega (arith, packet, field, fits, part, length-append head body, length-take n (head ++ body)))

-- octets that are fewer than a part of what is left that is no longer than the packet there
pub took_rest : (left now : Option (List ℕ)) (buf : List ℕ) (count part : ℕ) → length buf ≤ part → count < length buf
    → IfSome left (λ octets. part ≤ 7 + (header_of octets).length) → Consumes left now (take count buf) → (rest : List ℕ) × BeginsNoPacket rest × Consumes left now rest
took_rest None now buf count part size less within taken = ([], λ n fits packet. absurd (omega (arith, packet, length-take {A = ℕ} n [])), tt)
took_rest (Some octets) None buf count part size less within taken = absurd taken
took_rest (Some octets) (Some others) buf count part size less within taken =
    let rest = take count buf in
    let none : BeginsNoPacket rest = λ n fits packet.
    let long : 7 ≤ n = omega (arith, packet, length-take n rest) in
    let behind : 6 ≤ length rest = omega (arith, long, fits) in
    let field : (header_of (take n rest)).length ≡ (header_of octets).length =
    length_field-take rest n (omega (arith, long)) ∙ sym (ap (λ h. h.length) (ap header_of taken ∙ header-append rest others behind)) in
    absurd (omega (arith, packet, field, fits, within, less, size, length-take n rest, length-take count buf)) in
    (rest, none, taken)

-- a part of what is left that is no longer than the packet there
pub taken_exact : (left now : Option (List ℕ)) (into : List ℕ) (front size : ℕ) → 6 ≤ front → front ≤ length into → size ≡ 7 + (header_of into).length
    → size ≤ front → IfSome left (λ octets. front ≤ 7 + (header_of octets).length) → Consumes left now (take front into) → Consumes left now (take size into)
taken_exact None now into front size long fits is less within taken = tt
taken_exact (Some octets) None into front size long fits is less within taken = taken
taken_exact (Some octets) (Some others) into front size long fits is less within taken =
    let six : 6 ≤ length (take front into) = omega (arith, long, fits, length-take front into) in
    let field : (header_of octets).length ≡ (header_of into).length =
    ap (λ h. h.length) (ap header_of taken ∙ header-append (take front into) others six ∙ header-take into front long) in
    let same : size ≡ front = omega (arith, is, less, within, field) in
    rw same taken

-- octets that were taken whole
pub taken_whole : (old new : Option (List ℕ)) (octets : List ℕ) (count : ℕ) → length octets ≤ count → Consumes old new (take count octets) → Consumes old new octets
taken_whole old new octets count all taken = rw (take_all count octets all) at taken

-- the packet that stands at the front of the buffer
pub take-packet : (into body : List ℕ) (front size k : ℕ) → front ≤ length into → front + length body ≡ size
    → take size (put_mid front k into body) ≡ take front into ++ body
take-packet into body front size k fits is = take-put_mid front k into body size (omega (arith, is)) fits

pub packet_fits : (buffer packet : List ℕ) (size : ℕ) → take size buffer ≡ packet → length packet ≡ size → size ≤ length buffer
packet_fits buffer packet size is all = omega (arith, ap length is, length-take size buffer)
