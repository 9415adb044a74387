use Rattle.std.proofs.Common.{◌∙◌, ℕ, List, ◌++◌, ◌≤◌, length, subst, ap, sym, refl}
use Rattle.mib_model.specs.Interpreter.{StampedPacket, course_after, record_for}
use Rattle.mib_model.specs.Texts.{record_text}
use Rattle.row_records.specs.Stamps.{course_of}
use Rattle.tm_audit.specs.Comparing.{parting_with}
use Rattle.mibtm_audit.proofs.FoundFacts.{goes-on, next-known, stamped-so}
use Rattle.mibtm_audit.proofs.audit.Audit.expect_packet.Goals as goal

pub rows_of-rows-requires-clause-some : goal.rows_of-rows-requires-clause-some
rows_of-rows-requires-clause-some c = subst (λ (e : ℕ). 1 ≤ e) (sym c.take-edition.ensures.edition) (next-known c.args.self.now c.requires.underway).0

pub rows_of-rows-requires-clause-known : goal.rows_of-rows-requires-clause-known
rows_of-rows-requires-clause-known c =
    subst (λ (e : ℕ). e ≤ length c.args.self.now.saved.now) (sym c.take-edition.ensures.edition) (next-known c.args.self.now c.requires.underway).1

pub returns : goal.returns
returns c = record {
  stands = λ a packets stands.
      let is = stamped-so a packets c.args.self.now stands c.args.packet.now c.take-edition.result c.rows_of-rows.result.now c.take-edition.ensures.edition c.rows_of-rows.ensures in
      let course = course_of c.args.self.now.course in
      goes-on a packets c.args.packet.now c.take.new.out c.args.self.now _ stands refl refl c.take-edition.ensures.behind
      (c.in_ok-take.ensures.course ∙ ap (course_after course) is) (c.in_ok-take.ensures.text ∙ ap (λ (s : StampedPacket). record_text (record_for course s)) is)
      (λ more. c.expect.ensures more ∙ ap (λ (r : List ℕ). parting_with c.args.self.now.comparison (r ++ more)) c.bytes.ensures);
}
