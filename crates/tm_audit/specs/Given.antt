-- What the examples are given: tables, a script and a feed written out.
use Rattle.std.specs.Prelude.{ℕ, List, [], ◌∷◌, map, ◌==◌, codes, Result, Ok, Err, if◌then◌else◌}
use Rattle.mib_model.specs.declared.database.Database.{Database}
use Rattle.mib_model.specs.declared.fault.MibFault.{MibFault}
use Rattle.mib_model.specs.declared.kind.Kind.{Kind}
use Rattle.mib_model.specs.declared.kind.Kind.TheVariants as kind
use Rattle.mib_model.specs.Database.{no_rows}
use Rattle.mib_model.specs.DatabaseTexts.{database_read}
use Rattle.tm_audit.specs.declared.code.AuditCode.{AuditCode}
use Rattle.tm_audit.specs.Audit.{audited}
use Rattle.tm_audit.specs.Saved.{saved_tables}

-- a text that is written with a bar for each TAB
abbrev pub tabbed : List ℕ → List ℕ
tabbed text = map (λ c. if c == 124 then 9 else c) text

-- one parameter of 16 bits, calibrated by two points
abbrev pub calibrated_tables : Kind → List ℕ
calibrated_tables kind.Pcf = tabbed (codes "T1||||3|12||||N|R|C1\n")
calibrated_tables kind.Pid = tabbed (codes "3|25|100|||4001\n")
calibrated_tables kind.Plf = tabbed (codes "T1|4001|10|0\n")
calibrated_tables kind.Caf = tabbed (codes "C1||R|U|D|||F\n")
calibrated_tables kind.Cap = tabbed (codes "C1|0|-50\nC1|4000|150\n")
calibrated_tables other = []

-- the database that was read; one with no rows where there is a fault
abbrev pub read_or_none : Result Database MibFault → Database
read_or_none (Ok db) = db
read_or_none (Err fault) = no_rows

-- the database of these tables
unfoldable pub calibrated : Database
calibrated = read_or_none (database_read calibrated_tables)

-- a script that adds a point, saves and uses the edition from the second packet on
abbrev pub bending : List ℕ
bending = tabbed (codes "put cap|C1|2000|100\nsave\nuse 2 from 2\ngo\n")

-- a packet of APID 100, service 3 and subtype 25 with the number 2000
abbrev pub packet : List ℕ
packet = 0x08 ∷ 0x64 ∷ 0xC0 ∷ 0 ∷ 0 ∷ 5 ∷ 0x10 ∷ 3 ∷ 25 ∷ 0 ∷ 0x07 ∷ 0xD0 ∷ []

-- what is found of a text, by a script and a feed of three packets
unfoldable pub audit_of : List ℕ → List ℕ → AuditCode
audit_of script text = audited calibrated (saved_tables calibrated script) (packet ∷ packet ∷ packet ∷ []) [] text
