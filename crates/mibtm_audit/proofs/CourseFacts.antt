-- An audit goes on packet by packet.
use Rattle.std.proofs.Common.{◌≡◌, ℕ, ◌+◌, ◌≤◌, List, [], ◌∷◌, ◌++◌, length, map, refl, arith, append_assoc, length-append}
use Rattle.std.specs.List.{enumerate_from}
use Rattle.mib_model.specs.Interpreter.{Course, StampedPacket, course_after, interpret, record_for, records_text, start}
use Rattle.mib_model.specs.Tails.{Record}
use Rattle.mib_model.specs.Texts.{edition_text_of, head_text, record_body, record_text, rest_text}
use Rattle.tm_audit.specs.Audit.{stamped_at, text_as}
use Rattle.mibtm_audit.specs.Courses.{Against, expected_of, shown_by, text_from}

-- the record of a packet is no empty text
pub record-some : (r : Record) → 1 ≤ length (record_text r)
unfolding record_text record_body head_text
record-some r =
    let front = length-append (edition_text_of r.edition) (record_body r) in
    let body : 1 ≤ length (record_body r) = omega arith in
    omega (arith, front, body)

-- a packet as it is stamped at a place
abbrev pub stamp : Against → ℕ → List ℕ → StampedPacket
stamp a place packet = stamped_at a.saved (shown_by a) (place, packet)

-- the text from a packet on
pub text-more : (a : Against) (course : Course) (place : ℕ) (packet : List ℕ) (others : List (List ℕ)) (rest : List ℕ)
    → text_from a course place (packet ∷ others) rest
    ≡ record_text (record_for course (stamp a place packet)) ++ text_from a (course_after course (stamp a place packet)) (place + 1) others rest
unfolding interpret
text-more a course place packet others rest = append_assoc (record_text (record_for course (stamp a place packet)))
    (records_text (interpret (course_after course (stamp a place packet)) (map (stamped_at a.saved (shown_by a)) (enumerate_from (place + 1) others)))) (rest_text rest)

-- the text of a rest alone
pub text-rest : (a : Against) (course : Course) (place : ℕ) (rest : List ℕ) → text_from a course place [] rest ≡ rest_text rest
unfolding interpret
text-rest a course place rest = refl

-- the whole text
pub text-whole : (a : Against) (packets : List (List ℕ)) (rest : List ℕ) → expected_of a packets rest ≡ text_from a (start a.first) 0 packets rest
unfolding text_as
text-whole a packets rest = refl

-- one more of some packets
pub one-more : {A : Type 0} (packets : List A) (packet : A) → length (packets ++ packet ∷ []) ≡ length packets + 1
one-more packets packet = length-append packets (packet ∷ [])
