-- The record of a packet, piece by piece, and what is left behind it.
use Rattle.std.proofs.Common.{◌≡◌, ◌∙◌, ℕ, List, ◌++◌, append_assoc, sym, ap}
use Rattle.std.specs.List.{flat_map}
use Rattle.mib_model.specs.declared.packet.Found.{Found}
use Rattle.mib_model.specs.Headers.{header_of}
use Rattle.mib_model.specs.Interpreter.{Course, StampedPacket, course_after, finished_for, memory_for, record_for, title_of, values_of}
use Rattle.mib_model.specs.Kept.{Memory}
use Rattle.mib_model.specs.Match.{match_of}
use Rattle.mib_model.specs.Texts.{edition_text_of, ended_text, head_text, record_body, record_text, told_text}
use Rattle.row_records.specs.Stamps.{values_text}

-- behind a packet that leaves this
abbrev pub behind : StampedPacket → Memory → Course
behind s memory = record { memory = memory; edition = s.edition; tables = s.tables }

pub after-is : (c : Course) (s : StampedPacket) (held memory : Memory) → held ≡ memory_for c s → memory ≡ (finished_for s held).0 → behind s memory ≡ course_after c s
unfolding course_after
after-is c s held memory kept is = ap (behind s) (is ∙ ap (λ (m : Memory). (finished_for s m).0) kept)

-- the head line of a packet that is this
abbrev pub head_for : StampedPacket → Found → List ℕ
head_for s found = head_text s.number (header_of s.packet) found (title_of s.tables found)

pub text-is : (c : Course) (s : StampedPacket) (held : Memory) (found : Found) (turned headed told : List ℕ) → held ≡ memory_for c s → found ≡ match_of s.tables s.packet
    → turned ≡ edition_text_of (record_for c s).edition → headed ≡ turned ++ head_for s found → told ≡ headed ++ values_text s held → told ≡ record_text (record_for c s)
unfolding record_text record_body record_for
text-is c s held found turned headed told kept matched edition head values =
    values
    ∙ ((λ i. head i ++ values_text s (kept i))
    ∙ ((λ i. (edition i ++ head_for s (matched i)) ++ values_text s (memory_for c s))
    ∙ (append_assoc (edition_text_of (record_for c s).edition) (head_for s (match_of s.tables s.packet)) (values_text s (memory_for c s))
    ∙ ap (λ (body : List ℕ). edition_text_of (record_for c s).edition ++ body)
    (sym (append_assoc (head_for s (match_of s.tables s.packet)) (flat_map (told_text s.packet) (finished_for s (memory_for c s)).1)
    (ended_text (values_of s.tables s.packet (match_of s.tables s.packet)).1))))))
