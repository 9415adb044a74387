-- What an audit stands for, and what is found where it ends.
use Rattle.std.proofs.Common.{◌≡◌, ◌∙◌, ℕ, ◌+◌, ◌≤◌, List, [], ◌∷◌, ◌++◌, length, Option, Some, None, refl, sym, ap, subst, arith, append_assoc, append-nil, length-append, Bool, true, false, cond, nat_lt}
use Rattle.std.proofs.lemmas.Bool.{ltb-false}
use Rattle.mib_model.specs.declared.database.Database.{Database}
use Rattle.mib_model.specs.Interpreter.{Course, course_after, record_for, start}
use Rattle.mib_model.specs.Texts.{record_text, rest_text}
use Rattle.row_records.specs.Stamps.{course_of}
use Rattle.tm_audit.proofs.PartFacts.{parts, alone_is_same}
use Rattle.tm_audit.specs.Audit.{audited, compared, refused, tables_of}
use Rattle.tm_audit.specs.Comparing.{parting_with}
use Rattle.tm_audit.specs.Shown.{Editions, edition_at, first_unknown}
use Rattle.tm_audit.specs.TextLines.{first_apart, parting, text_lines}
use Rattle.tm_audit.specs.declared.code.AuditCode.{AuditCode}
use Rattle.tm_audit.specs.declared.code.AuditCode.TheVariants as code
use Rattle.tm_audit.specs.declared.code.TheConstants.{TEXT_MOST}
use Rattle.mibtm_audit.specs.declared.audit.Audit.{Audit}
use Rattle.mibtm_audit.specs.Courses.{Against, IsUnderway, Stands, behind, expected_of, found_of, shown_by, text_from}
use Rattle.mibtm_audit.specs.Comparing.{IsReached}
use Rattle.mibtm_audit.proofs.CourseFacts.{one-more, record-some, stamp, text-more, text-rest, text-whole}
use Rattle.mibtm_audit.proofs.ShownFacts.{IsOf, left-next, next-left, shown-known}

-- ---- where an audit stands

pub starts : (a : Against) (audit : Audit) → refused (length a.saved) a.text ≡ None → length a.text ≤ TEXT_MOST → 1 ≤ length a.saved → audit.saved.now ≡ a.saved → audit.packets ≡ 0 → audit.shown ≡ shown_by a
    → course_of audit.course ≡ start a.first → ((more : List ℕ) → parting_with audit.comparison more ≡ parting 1 more a.text) → Stands a [] audit
starts a audit admitted short some saved none shown course compares = record {
  admitted = admitted;
  short = short;
  some = some;
  saved = saved;
  counted = none;
  shown = shown;
  expected = [];
  few = omega arith;
  expects = compares;
  goes_on = λ others rest. text-whole a others rest ∙ ap (λ (c : Course). text_from a c 0 others rest) (sym course);
}

-- the edition of the next packet is one of those that there are
pub next-known : (audit : Audit) → IsUnderway audit → IsOf (length audit.saved.now) (edition_at audit.shown 0)
next-known audit (a, packets, s) =
    let known = shown-known (length a.saved) 1 (text_lines a.text) (length packets) (omega arith, s.some) in
    let edition : edition_at audit.shown 0 ≡ edition_at (shown_by a) (length packets) = ap (λ (e : Editions). edition_at e 0) s.shown ∙ next-left (length packets) (shown_by a) in
    let count = ap length s.saved in
    (omega (arith, edition, known.0), omega (arith, edition, count, known.1))

-- the next packet is stamped as the definition says
pub stamped-so : (a : Against) (packets : List (List ℕ)) (audit : Audit) → Stands a packets audit → (packet : List ℕ) (edition : ℕ) (rows : Database) → edition ≡ edition_at audit.shown 0
    → rows ≡ tables_of audit.saved.now edition → record { number = audit.packets + 1; packet = packet; edition = edition; tables = rows } ≡ stamp a (length packets) packet
stamped-so a packets audit s packet edition rows shows is =
    let at : edition ≡ edition_at (shown_by a) (length packets) = shows ∙ (ap (λ (e : Editions). edition_at e 0) s.shown ∙ next-left (length packets) (shown_by a)) in
    let tables : rows ≡ tables_of a.saved (edition_at (shown_by a) (length packets)) = is ∙ (λ i. tables_of (s.saved i) (at i)) in
    λ i. record { number = s.counted i + 1; packet = packet; edition = at i; tables = tables i }

-- the audit behind one packet more, whose record was expected
pub goes-on : (a : Against) (packets : List (List ℕ)) (packet told : List ℕ) (old new : Audit) → Stands a packets old
    → new.saved ≡ old.saved → new.packets ≡ old.packets + 1 → new.shown ≡ Rattle.tm_audit.specs.Shown.behind_first old.shown
    → course_of new.course ≡ course_after (course_of old.course) (stamp a (length packets) packet)
    → told ≡ record_text (record_for (course_of old.course) (stamp a (length packets) packet))
    → ((more : List ℕ) → parting_with new.comparison more ≡ parting_with old.comparison (told ++ more)) → Stands a (packets ++ packet ∷ []) new
goes-on a packets packet told old new s saved more shown course is expects =
    let more_packets = one-more packets packet in
    let some : 1 ≤ length told = subst (λ (r : List ℕ). 1 ≤ length r) (sym is) (record-some (record_for (course_of old.course) (stamp a (length packets) packet))) in
    let longer = length-append s.expected told in
    record {
      admitted = s.admitted;
      short = s.short;
      some = s.some;
      saved = ap (λ (b : Rattle.std.specs.Borrow.Bor (List Database)). b.now) saved ∙ s.saved;
      counted = omega (arith, more, s.counted, more_packets);
      shown = shown ∙ (ap Rattle.tm_audit.specs.Shown.behind_first s.shown ∙ (left-next (length packets) (shown_by a) ∙ ap (λ (n : ℕ). behind n (shown_by a)) (sym more_packets)));
      expected = s.expected ++ told;
      few = omega (arith, s.few, some, longer, more_packets);
      expects = λ others. expects others ∙ (s.expects (told ++ others) ∙ ap (λ (t : List ℕ). parting 1 t a.text) (sym (append_assoc s.expected told others)));
      goes_on = λ others rest.
          let behind_it = text_from a (course_of new.course) (length (packets ++ packet ∷ [])) others rest in
          ap (λ (ps : List (List ℕ)). expected_of a ps rest) (append_assoc packets (packet ∷ []) others)
          ∙ (s.goes_on (packet ∷ others) rest
          ∙ (ap (λ (t : List ℕ). s.expected ++ t) (text-more a (course_of old.course) (length packets) packet others rest
          ∙ ((λ i. sym is i ++ text_from a (sym course i) (sym more_packets i) others rest)))
          ∙ sym (append_assoc s.expected told behind_it)));
    }

-- ---- what is found

module _ (a : Against) (packets : List (List ℕ)) (audit : Audit) (s : Stands a packets audit) where
  -- the text that is expected of the packets so far
  whole : expected_of a packets [] ≡ s.expected
  whole = ap (λ (ps : List (List ℕ)). expected_of a ps []) (sym (append-nil packets))
      ∙ (s.goes_on [] [] ∙ (ap (λ (t : List ℕ). s.expected ++ t) (text-rest a (course_of audit.course) (length packets) []) ∙ append-nil s.expected))

  -- a text that goes on with these octets
  goes-with : (more : List ℕ) → parting_with audit.comparison more ≡ None → a.text ≡ s.expected ++ more
  goes-with more none = sym (alone_is_same (s.expected ++ more) a.text (parts 1 (s.expected ++ more) a.text ∙ (sym (s.expects more) ∙ none)))

  pub reached : (more : List ℕ) × (parting_with audit.comparison more ≡ None) → IsReached a packets
  reached (more, none) = (more, goes-with more none ∙ ap (λ (t : List ℕ). t ++ more) (sym whole))

  pub few-packets : (more : List ℕ) × (parting_with audit.comparison more ≡ None) → length packets ≤ TEXT_MOST
  few-packets (more, none) =
      let all = ap length (goes-with more none) in
      let both = length-append s.expected more in
      omega (arith, s.few, s.short, all, both)

  -- what is found by all that comes behind the packets
  pub found-by : (others : List (List ℕ)) (rest : List ℕ)
      → found_of a (packets ++ others) rest ≡ compared (parting_with audit.comparison (text_from a (course_of audit.course) (length packets) others rest))
  unfolding audited
  found-by others rest =
      ap (λ (r : Option AuditCode). elim r [ Some found ↦ found | None ↦ compared (first_apart 1 (text_lines (expected_of a (packets ++ others) rest)) (text_lines a.text)) ]) s.admitted
      ∙ ap compared (parts 1 (expected_of a (packets ++ others) rest) a.text
      ∙ (ap (λ (t : List ℕ). parting 1 t a.text) (s.goes_on others rest) ∙ sym (s.expects (text_from a (course_of audit.course) (length packets) others rest))))

  -- what is found where the feed ends with a rest
  pub found-rest : (rest : List ℕ) → found_of a packets rest ≡ compared (parting_with audit.comparison (rest_text rest))
  found-rest rest =
      ap (λ (ps : List (List ℕ)). found_of a ps rest) (sym (append-nil packets))
      ∙ (found-by [] rest ∙ ap (λ (t : List ℕ). compared (parting_with audit.comparison t)) (text-rest a (course_of audit.course) (length packets) rest))

  -- what is found where the text parts already
  pub found-apart : ((more : List ℕ) → parting_with audit.comparison more ≡ parting_with audit.comparison [])
      → (others : List (List ℕ)) (rest : List ℕ) → found_of a (packets ++ others) rest ≡ compared (parting_with audit.comparison [])
  found-apart apart others rest = found-by others rest ∙ ap compared (apart (text_from a (course_of audit.course) (length packets) others rest))

  -- a text that parts already parts somewhere
  pub apart-somewhere : ((more : List ℕ) → parting_with audit.comparison more ≡ parting_with audit.comparison []) → parting_with audit.comparison [] ≡ None → ⊥
  apart-somewhere apart none =
      let one = ap length (goes-with [] none) in
      let two = ap length (goes-with (0 ∷ []) (apart (0 ∷ []) ∙ none)) in
      let first = length-append s.expected [] in
      let second = length-append s.expected (0 ∷ []) in
      omega (arith, one, two, first, second)

-- a text that isn't refused isn't too long
pub short-of : (count : ℕ) (text : List ℕ) → refused count text ≡ None → length text ≤ TEXT_MOST
short-of count text admitted = go (nat_lt TEXT_MOST (length text)) refl admitted where
  go : (long : Bool) → nat_lt TEXT_MOST (length text) ≡ long
      → cond long (Some code.Large) (elim (first_unknown count 1 (text_lines text)) [ None ↦ None | Some line ↦ Some (code.NoEdition line count) ]) ≡ None → length text ≤ TEXT_MOST
  go true is refuses = absurd (cc refuses)
  go false is refuses = let no = ltb-false TEXT_MOST (length text) is in omega (arith, no)

-- as long as a text doesn't part there are no more packets than octets of it
pub few-underway : (audit : Audit) → IsUnderway audit → (more : List ℕ) × (parting_with audit.comparison more ≡ None) → audit.packets ≤ TEXT_MOST
few-underway audit (a, packets, s) together = let few = few-packets a packets audit s together in let counted = s.counted in omega (arith, few, counted)

-- one packet more was counted
pub counted-on : (old new : Audit) (packet : List ℕ) → IsUnderway old
    → ((a : Against) (packets : List (List ℕ)) → Stands a packets old → Stands a (packets ++ packet ∷ []) new) → new.packets ≡ old.packets + 1
counted-on old new packet (a, packets, s) goes =
    let now = (goes a packets s).counted in let before = s.counted in let more = one-more packets packet in omega (arith, now, before, more)
