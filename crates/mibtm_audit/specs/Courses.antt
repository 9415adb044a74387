-- Where an audit stands behind some packets. [This profile.]
use Rattle.std.specs.Prelude.{◌≡◌, ℕ, ◌≤◌, List, ◌++◌, drop, length, map, None}
use Rattle.std.specs.List.{enumerate_from}
use Rattle.mib_model.specs.declared.database.Database.{Database}
use Rattle.mib_model.specs.Interpreter.{Course, interpret, records_text}
use Rattle.mib_model.specs.Texts.{rest_text}
use Rattle.row_records.specs.Stamps.{course_of}
use Rattle.tm_audit.specs.Audit.{audited, expected, refused, stamped_at}
use Rattle.tm_audit.specs.Comparing.{parting_with}
use Rattle.tm_audit.specs.Shown.{Editions, editions_shown}
use Rattle.tm_audit.specs.TextLines.{parting, text_lines}
use Rattle.tm_audit.specs.declared.code.AuditCode.{AuditCode}
use Rattle.tm_audit.specs.declared.code.TheConstants.{TEXT_MOST}
use Rattle.mibtm_audit.specs.declared.audit.Audit.{Audit}

-- what packets are held against: a text, by the tables of edition 1 and those that were saved
pub record Against : Type 0 where
  pub first : Database
  pub saved : List Database
  pub text : List ℕ

-- the text that is expected of packets and a rest
abbrev pub expected_of : Against → List (List ℕ) → List ℕ → List ℕ
expected_of a packets rest = expected a.first a.saved packets rest a.text

-- what is found by packets and a rest
abbrev pub found_of : Against → List (List ℕ) → List ℕ → AuditCode
found_of a packets rest = audited a.first a.saved packets rest a.text

-- the editions that the text shows
abbrev pub shown_by : Against → Editions
shown_by a = editions_shown (length a.saved) 1 (text_lines a.text)

-- the editions that are left behind so many packets
abbrev pub behind : ℕ → Editions → Editions
behind count shown = record shown { each = drop count shown.each }

-- the text that is expected of packets from this place on and of a rest, where the interpretation stands so
abbrev pub text_from : Against → Course → ℕ → List (List ℕ) → List ℕ → List ℕ
text_from a course place packets rest =
    records_text (interpret course (map (stamped_at a.saved (shown_by a)) (enumerate_from place packets))) ++ rest_text rest

-- behind these packets an audit goes on with what is expected of all others
pub record Stands (a : Against) (packets : List (List ℕ)) (audit : Audit) : Type 0 where
  pub admitted : refused (length a.saved) a.text ≡ None
  pub short : length a.text ≤ TEXT_MOST
  pub some : 1 ≤ length a.saved
  pub saved : audit.saved.now ≡ a.saved
  pub counted : audit.packets ≡ length packets
  pub shown : audit.shown ≡ behind (length packets) (shown_by a)
  pub expected : List ℕ
  pub few : length packets ≤ length expected
  pub expects : (more : List ℕ) → parting_with audit.comparison more ≡ parting 1 (expected ++ more) a.text
  pub goes_on : (others : List (List ℕ)) (rest : List ℕ)
      → expected_of a (packets ++ others) rest ≡ expected ++ text_from a (course_of audit.course) (length packets) others rest

-- an audit of some text stands behind some packets
abbrev pub IsUnderway : Audit → Type 0
IsUnderway audit = (a : Against) × (packets : List (List ℕ)) × Stands a packets audit
