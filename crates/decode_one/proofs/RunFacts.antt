-- The records of packets of one edition, and the interpreter's run.
use Rattle.std.proofs.Common.{◌≡◌, ◌∙◌, ℕ, suc, true, cond, ◌==◌, List, [], ◌∷◌, ◌++◌, Option, Some, None, All, refl, ap, append-nil, arith, sym}
use Rattle.std.proofs.lemmas.Bool.Decides.{nat_tests}
use Rattle.mib_model.specs.Interpreter.{Course, StampedPacket, course_after, course_after_all, interpret, memory_for, record_for, records_text}
use Rattle.mib_model.specs.Kept.{Memory}
use Rattle.mib_model.specs.Texts.{edition_text_of, record_body, record_text}
use Rattle.line_sheets.specs.Pieces.{Played}
use Rattle.line_sheets.specs.Drawings.{packet_played, packets_played}
use Rattle.decode_one.specs.Steps.{IsOf}

-- the edition of a packet, where it is another than that of the packet before
abbrev edition_told : Course → StampedPacket → Option ℕ
edition_told c s = cond (s.edition == c.edition) None (Some s.edition)

same-edition : (n m : ℕ) → n ≡ m → (n == m) ≡ true
same-edition n m is = grind (arith, nat_tests, is)

-- a packet's record, and what stands in front of it
told-step : (c : Course) (s : StampedPacket) → record_text (record_for c s) ≡ edition_text_of (edition_told c s) ++ (packet_played s (memory_for c s)).1
unfolding record_text record_for record_body
told-step c s = refl

-- what the interpreter does over packets
pub record IsRun (c : Course) (ss : List StampedPacket) (done : Played) : Type 0 where
  pub memory : (course_after_all c ss).memory ≡ done.0
  pub text : records_text (interpret c ss) ≡ done.1

-- the run over packets of the edition of the packet before
pub run-is : (c : Course) (ss : List StampedPacket) → All (IsOf c.edition c.tables) ss → IsRun c ss (packets_played ss c.memory)
unfolding course_after_all interpret packets_played course_after
run-is c [] all = record { memory = refl; text = refl }
run-is c (s ∷ ss) all =
    let first = all 0 s (omega arith) in
    let here : (s.edition == c.edition) ≡ true = same-edition s.edition c.edition first.edition in
    let after = course_after c s in
    let memory : memory_for c s ≡ c.memory = rw here refl in
    let quiet : edition_text_of (edition_told c s) ≡ [] = rw here refl in
    let others : All (IsOf s.edition s.tables) ss = λ k d below. let x = all (suc k) d (omega (arith, below)) in record { edition = x.edition ∙ sym first.edition; tables = x.tables ∙ sym first.tables } in
    let rest = run-is after ss others in
    let from : packets_played ss after.memory ≡ packets_played ss (packet_played s c.memory).0 = ap (λ (m : Memory). packets_played ss (packet_played s m).0) memory in
    record {
      memory = rest.memory ∙ ap (λ (p : Played). p.0) from;
      text = (λ i. (told-step c s ∙ (λ j. quiet j ++ (packet_played s (memory j)).1)) i ++ (rest.text ∙ ap (λ (p : Played). p.1) from) i);
    }

-- what the interpreter does with one packet
pub step-is : (c : Course) (s : StampedPacket) (m : Memory) → memory_for c s ≡ m
    → ((course_after c s).memory ≡ (packets_played (s ∷ []) m).0) × (record_body (record_for c s) ≡ (packets_played (s ∷ []) m).1)
unfolding record_for record_body course_after packets_played
step-is c s m is = (ap (λ (n : Memory). (packet_played s n).0) is, ap (λ (n : Memory). (packet_played s n).1) is ∙ sym (append-nil (packet_played s m).1))
