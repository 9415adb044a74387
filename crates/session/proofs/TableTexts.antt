-- A text that is read in part is refused as the whole is.
use Rattle.std.proofs.Common.{◌≡◌, ℕ, refl, min, true, List, length, Result, Option, Some, None, IfSome, ap, ◌∙◌, inl, inr, arith, subst}
use Rattle.std.specs.Prelude.{nat_lt}
use Rattle.std.proofs.lemmas.Bool.{cases_Bool}
use borrow.Author.Tests.{ltb-true, ltb-false, lt-ltb}
use Rattle.mib_model.specs.declared.fault.MibFault.{MibFault}
use Rattle.mib_model.specs.declared.kind.Kind.{Kind}
use Rattle.mib_model.specs.declared.rows.Row.{Row}
use Rattle.mib_model.specs.Reading.{table_of}
use Rattle.session.specs.Sources.{Files, octets_of, part_read, read_in, table_file, table_text}
use Rattle.session.proofs.TextFiles.{part_read-all, length-part_read}

-- a text that is read in part has the rows or the fault of the whole
table_of-part : (table : Kind) (text : List ℕ) → table_of table (part_read text) ≡ table_of table text
unfolding table_of
table_of-part table text = elim (cases_Bool (nat_lt 67108864 (length text))) [
  | inl big ↦
      let still : nat_lt 67108864 (length (part_read text)) ≡ true = rw (length-part_read text) (lt-ltb 67108864 (min 67108865 (length text)) (omega (arith, ltb-true 67108864 (length text) big))) in
      rw (big, still) refl
  | inr fits ↦ ap (table_of table) (part_read-all text (omega (arith, ltb-false 67108864 (length text) fits)))
]

-- what is said of the text of a file that was read is said of the file
pub of_file : (P : Result (List Row) MibFault → Type 0) (table : Kind) (holds : Option Files) (folder name text given : List ℕ) → name ≡ table_file folder table → given ≡ text
    → IfSome holds (λ files. text ≡ part_read (octets_of files name)) → P (table_of table given) → IfSome holds (λ files. P (read_in files folder table))
of_file P table None folder name text given is same read said = tt
of_file P table (Some files) folder name text given is same read said =
    subst P (ap (table_of table) (same ∙ read ∙ ap (λ n. part_read (octets_of files n)) is) ∙ table_of-part table (table_text files folder table)) said
