-- Audits of a run over a change of edition. [This profile.]
use Rattle.std.specs.Prelude.{◌≡◌, ℕ, List, [], ◌++◌, codes}
use Rattle.tm_audit.specs.declared.code.AuditCode.TheVariants.{Differs, NoEdition, Same}
use Rattle.tm_audit.specs.Given.{audit_of, bending}

-- the record of the first packet
abbrev pub first_record : List ℕ
first_record = codes "PKT 1 APID 100 COUNT 0 TYPE 3/25 SPID 4001\n" ++ codes "  T1 2000 = 50\n"

-- the records of the second and the third packet by the saved tables
abbrev pub bent_records : List ℕ
bent_records =
    codes "PKT 2 APID 100 COUNT 0 TYPE 3/25 SPID 4001\n" ++
    codes "  T1 2000 = 100\n" ++
    codes "PKT 3 APID 100 COUNT 0 TYPE 3/25 SPID 4001\n" ++
    codes "  T1 2000 = 100\n"

-- the records of the second and the third packet by the first tables
abbrev pub straight_records : List ℕ
straight_records =
    codes "PKT 2 APID 100 COUNT 0 TYPE 3/25 SPID 4001\n" ++
    codes "  T1 2000 = 50\n" ++
    codes "PKT 3 APID 100 COUNT 0 TYPE 3/25 SPID 4001\n" ++
    codes "  T1 2000 = 50\n"

-- a text as it is printed, and texts that are not
pub record AuditExamples : Type 0 where
  -- the text that the run prints
  pub same : audit_of bending (first_record ++ codes "EDITION 2\n" ++ bent_records) ≡ Same
  -- one edition alone
  pub one_edition : audit_of [] (first_record ++ straight_records) ≡ Same
  -- without its third line
  pub dropped : audit_of bending (first_record ++ bent_records) ≡ Differs 4
  -- its third line twice
  pub doubled : audit_of bending (first_record ++ codes "EDITION 2\n" ++ codes "EDITION 2\n" ++ bent_records) ≡ Differs 4
  -- an edition that wasn't saved
  pub unsaved : audit_of bending (first_record ++ codes "EDITION 3\n" ++ bent_records) ≡ NoEdition 3 2
  -- a number with a zero in front
  pub padded : audit_of bending (first_record ++ codes "EDITION 02\n" ++ bent_records) ≡ NoEdition 3 2
  -- no number, and no LF
  pub unnumbered : audit_of bending (first_record ++ codes "EDITION ") ≡ NoEdition 3 2
  -- cut short behind an edition
  pub short : audit_of bending (first_record ++ codes "EDITION 2\n") ≡ Differs 4
  -- the last line without its LF
  pub unended : audit_of [] (first_record ++ codes "PKT 2 APID 100 COUNT 0 TYPE 3/25 SPID 4001") ≡ Differs 3
  -- a line behind the last
  pub long : audit_of bending (first_record ++ codes "EDITION 2\n" ++ bent_records ++ codes "\n") ≡ Differs 8
  -- no text
  pub empty : audit_of bending [] ≡ Differs 1
