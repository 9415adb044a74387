-- A line that was written and not handed on.
use Rattle.std.proofs.Common.{◌≡◌, ℕ, ◌≤◌, List, length, Option, refl, sym, subst, arith, inr}
use Rattle.std.specs.Io.KnownBytes.{Appends}
use Rattle.std.proofs.lemmas.List.{take_all}
use Rattle.tm_audit.specs.Codes.{finding_text}
use Rattle.tm_audit.specs.declared.code.AuditCode.{AuditCode}
use Rattle.tm_audit.specs.declared.code.AuditCode.TheVariants as code
use Rattle.tm_io.specs.Causes.{Rose}
use Rattle.tm_io.specs.Octets.{AppendsPrefix}
use Rattle.tool_objects.specs.Objects.{SinkView}
use Rattle.mibtm_audit.specs.Statement.{Tells}

all-is-part : (text : List ℕ) (old new : Option (List ℕ)) → Appends old new text → AppendsPrefix old new text
all-is-part text old new wrote = (length text, subst (Appends old new) (sym (take_all (length text) text (omega arith))) wrote)

pub not-handed : {O : Type 0} (found : AuditCode) (out : SinkView O) (octets : List ℕ) (written : Option (List ℕ)) (mid : ℕ) → octets ≡ finding_text found → Appends (out.written out.before) written octets
    → out.written out.now ≡ written → mid ≡ out.faults out.before → mid ≤ out.faults out.now → Rose mid (out.faults out.now) → Tells found code.OutFault out
not-handed found out octets written mid is wrote same stood later rose =
    let text = subst (Appends (out.written out.before) written) is wrote in
    let more : out.faults out.before ≤ out.faults out.now = omega (arith, stood, later) in
    inr (
      refl,
      all-is-part (finding_text found) (out.written out.before) (out.written out.now) (subst (λ (w : Option (List ℕ)). Appends (out.written out.before) w (finding_text found)) (sym same) text),
      (more, subst (λ (n : ℕ). Rose n (out.faults out.now)) stood rose),
    )
