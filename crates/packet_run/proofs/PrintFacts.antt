-- The record of a packet, and what a watch is told of it.
use Rattle.packet_run.proofs.Common.{[], ℕ, ◌++◌, ◌==◌, ◌∙◌, ◌∷◌, ◌≡◌, ap, Appends, arc_value, arith, cond, Course, course_after, course_of, Database, edition_text_of, edition_told, Ghosts, HasPrinted, InUse, IsOfInUse, IsOfStamp, IsTurned, Known, List, Member, member, memory_of, None, packet_in, record_body, refl, Some, StampedPacket, subst, sym, true}
use Rattle.decode_one.specs.Steps.{ComesTo, HasStepped}
use Rattle.mib_model.specs.Carry.{carry}
use Rattle.mib_model.specs.Interpreter.{record_for}
use Rattle.mib_model.specs.Kept.{Memory}
use Rattle.mib_model.specs.Texts.{record_text}
use Rattle.packet_jobs.specs.declared.job.Job.{Job}

same : (n m : ℕ) → n ≡ m → (n == m) ≡ true
same n m e = grind (arith, e)

-- a record is the line of its edition and the rest
record_parts : (c : Course) (s : StampedPacket) → record_text (record_for c s) ≡ edition_text_of (edition_told c s) ++ record_body (record_for c s)
unfolding record_text record_for
record_parts c s = refl

-- what is written and kept where the interpreter comes to a packet
pub record IsRecordOf (c : Course) (s : StampedPacket) (after : Memory) (lines : List ℕ) : Type 0 where
  pub text : lines ≡ record_text (record_for c s)
  pub memory : (course_after c s).memory ≡ after

record_is : (c : Course) (s : StampedPacket) (after : Memory) (mid new : List ℕ) → mid ≡ edition_text_of (edition_told c s) → HasStepped c s after mid new
    → IsRecordOf c s after new
record_is c s after mid new told step = record {
  text = step.text ∙ ap (λ t. t ++ record_body (record_for c s)) told ∙ sym (record_parts c s);
  memory = step.memory;
}

-- a packet with which an edition came into use
pub record_turned : {P : Type 0} {plans : Ghosts P} {tables : P → Database} {u v : InUse P plans} (s : StampedPacket) {after : Memory} {old mid new : List ℕ}
    → IsTurned tables u v s.edition s.tables old mid → old ≡ []
    → ((c : Course) (s' : StampedPacket) → ComesTo c s' s.number s.packet (tables (arc_value v.handle)) (memory_of v.board) → HasStepped c s' after mid new)
    → IsRecordOf (course_of tables u) s after new
record_turned {tables = tables} {u} s {after} {old} {mid} {new} t none step =
    record_is (course_of tables u) s after mid new (t.told s refl ∙ ap (λ l. l ++ edition_text_of (edition_told (course_of tables u) s)) none)
    (step (course_of tables u) s (record { number = refl; packet = refl; tables = sym t.shown; memory = sym (t.kept s refl refl) }))

-- a packet of the edition in use: it has no line of its edition, and goes on with what is kept
pub record_use : {P : Type 0} {plans : Ghosts P} {tables : P → Database} {u : InUse P plans} {s : StampedPacket} {job : Job P plans} {after : Memory}
    {old new : List ℕ} → IsOfInUse tables u s → IsOfStamp tables s job → old ≡ []
    → (tables (arc_value job.handle) ≡ tables (arc_value u.handle) → (c : Course) (s : StampedPacket)
    → ComesTo c s job.cell.number (packet_in job.cell) (tables (arc_value u.handle)) (memory_of u.board) → HasStepped c s after old new)
    → IsRecordOf (course_of tables u) s after new
record_use {tables = tables} {u} {s} {after = after} {old} {new} here of none step =
    let c = course_of tables u in let e = same s.edition c.edition here.edition in
    record_is c s after old new (none ∙ sym (ap (λ b. edition_text_of (cond b None (Some s.edition))) e)) (step (of.edition ∙ here.shown) c s
    (record { number = sym of.number; packet = sym of.packet; tables = here.shown; memory = ap (λ b. cond b c.memory (carry c.memory c.tables s.tables)) e }))

pub has_printed : {P : Type 0} {plans : Ghosts P} {tables : P → Database} {W : Type 0} {stands : W → List Member → Type 0} {c : Course} {s : StampedPacket}
    {v : InUse P plans} {old new : Known} {w w' : W} {number : ℕ} {text : List ℕ}
    → Appends old new text → IsRecordOf c s (memory_of v.board) text → v.edition ≡ s.edition → tables (arc_value v.handle) ≡ s.tables → number ≡ s.number
    → ((told : List Member) → stands w told → stands w' (told ++ member number v.edition (memory_of v.board) ∷ []))
    → HasPrinted tables stands c s v old new w w'
has_printed {stands = stands} {v = v} {w' = w'} wrote is edition shown same_number tells = record {
  printed = rw (is.text) at wrote;
  edition = edition;
  shown = shown;
  memory = is.memory;
  told = λ told stood. subst (λ (m : Member). stands w' (told ++ m ∷ [])) (λ i. member (same_number i) (edition i) (sym is.memory i)) (tells told stood);
}
