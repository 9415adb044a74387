-- A text of which no more was read than one octet past what is audited.
use Rattle.std.proofs.Common.{◌≡◌, ◌∙◌, ℕ, ◌<◌, ◌≤◌, Bool, cond, List, length, take, Option, Some, None, IfSome, IsSomeAnd, nat_lt, refl, sym, ap, subst, arith, inl, inr}
use Rattle.std.proofs.lemmas.Bool.{cases_Bool, ltb-false, ltb-true}
use Rattle.std.proofs.lemmas.List.{length-take-le}
use Rattle.mib_model.specs.declared.database.Database.{Database}
use Rattle.session.specs.Sources.{Files, part_read}
use Rattle.session.proofs.TextFiles.{part_read-all}
use Rattle.tm_audit.specs.Audit.{refused}
use Rattle.tm_audit.specs.Shown.{first_unknown}
use Rattle.tm_audit.specs.TextLines.{text_lines}
use Rattle.tm_audit.specs.declared.code.AuditCode.{AuditCode}
use Rattle.tm_audit.specs.declared.code.AuditCode.TheVariants as code
use Rattle.tm_audit.specs.declared.code.TheConstants.{TEXT_MOST}
use Rattle.tool_objects.specs.Objects.{ShelfView, SinkView}
use Rattle.mibtm_audit.specs.Courses.{Against}
use Rattle.mibtm_audit.specs.Operands.{Named}
use Rattle.mibtm_audit.specs.Statement.{ByOctets, ByText, IsTextRead}

-- a text that is too long
large : (count : ℕ) (text : List ℕ) → TEXT_MOST < length text → refused count text ≡ Some code.Large
large count text long = elim (cases_Bool (nat_lt TEXT_MOST (length text))) [
  | inl is ↦ ap (λ (b : Bool). cond b (Some code.Large) (elim (first_unknown count 1 (text_lines text)) [ None ↦ None | Some line ↦ Some (code.NoEdition line count) ])) is
  | inr not ↦ let no = ltb-false TEXT_MOST (length text) not in absurd (omega (arith, no, long))
]

-- with a variable in place of the number, so that nothing counts up to it
part-size : (n : ℕ) (all : List ℕ) → n ≡ 67108865 → n ≤ length all → length (part_read all) ≡ n
unfolding part_read
part-size n all is long = sym (ap (λ (k : ℕ). length (take k all)) is) ∙ length-take-le n all long

part-long : (all : List ℕ) → 67108865 ≤ length all → TEXT_MOST < length (part_read all)
part-long all long = go 67108865 refl long where
  go : (n : ℕ) → n ≡ 67108865 → n ≤ length all → TEXT_MOST < length (part_read all)
  go n is fits = let size = part-size n all is fits in omega (arith, size, is)

module _ {F O : Type 0} (c : AuditCode) (first : Database) (saved : List Database) (name : List ℕ) (feed : ShelfView F) (out : SinkView O) where
  abbrev against : List ℕ → Against
  against text = record { first = first; saved = saved; text = text }

  -- what is said of as much of a text as was read is said of the text
  large-by : (all : List ℕ) → 67108865 ≤ length all → ByOctets c (against (part_read all)) name feed out → ByOctets c (against all) name feed out
  large-by all long (inl (found, is, uncalled, tells)) =
      inl (found, large (length saved) all (omega (arith, long)) ∙ (sym (large (length saved) (part_read all) (part-long all long)) ∙ is), uncalled, tells)
  large-by all long (inr (none, rest)) = absurd (cc (sym (large (length saved) (part_read all) (part-long all long)) ∙ none))

  by-all : (octets all : List ℕ) → octets ≡ part_read all → ByOctets c (against octets) name feed out → ByOctets c (against all) name feed out
  by-all octets all is said = elim (cases_Bool (nat_lt (length all) 67108865)) [
    | inl short ↦ subst (λ (t : List ℕ). ByOctets c (against t) name feed out) (is ∙ part_read-all all (let less = ltb-true (length all) 67108865 short in omega (arith, less))) said
    | inr not ↦ large-by all (let no = ltb-false (length all) 67108865 not in omega (arith, no)) (subst (λ (t : List ℕ). ByOctets c (against t) name feed out) is said)
  ]

-- the text that a file of the shelf is
Is : Option Files → List ℕ → List ℕ → Type 0
Is holds name all = IfSome holds (λ files. IsSomeAnd (files name) (λ octets. octets ≡ all))

in-file : (found : Option (List ℕ)) (octets : List ℕ) → IsSomeAnd found (λ all. octets ≡ part_read all) → (all : List ℕ) × (octets ≡ part_read all) × IsSomeAnd found (λ o. o ≡ all)
in-file None octets is = absurd is
in-file (Some all) octets is = (all, is, refl)

module _ {X F O : Type 0} (c : AuditCode) (first : Database) (saved : List Database) (names : Named) (text : ShelfView X) (feed : ShelfView F) (out : SinkView O) where
  known : (holds : Option Files) (octets : List ℕ) → IfSome holds (λ files. IsSomeAnd (files names.text) (λ all. octets ≡ part_read all))
      → ByOctets c (against c first saved names.feed feed out octets) names.feed feed out
      → (all : List ℕ) × Is holds names.text all × ByOctets c (against c first saved names.feed feed out all) names.feed feed out
  unfolding Is
  known None octets is said = (octets, tt, said)
  known (Some files) octets is said =
      let (all, part, whole) = in-file (files names.text) octets is in (all, whole, by-all c first saved names.feed feed out octets all part said)

  pub by-text : (octets read : List ℕ) → read ≡ octets → IsTextRead octets names.text text → ByOctets c (record { first = first; saved = saved; text = read }) names.feed feed out
      → ByText c first saved names text feed out
  unfolding Is
  by-text octets read is t said =
      let (all, whole, audited) = known (text.holds text.before) octets t.of_text (subst (λ (o : List ℕ). ByOctets c (against c first saved names.feed feed out o) names.feed feed out) is said) in
      inr (all, record { stood = t.stood; turned = t.turned; of_text = whole }, audited)
