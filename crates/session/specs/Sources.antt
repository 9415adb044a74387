-- The database that the files of a folder hold. [This profile.]
use Rattle.std.specs.Prelude.{◌≡◌, ℕ, ◌+◌, List, [], ◌++◌, codes, take, Option, unwrap_or, Result, Ok, Err, ⊤}
use Rattle.mib_model.specs.declared.database.Database.{Database}
use Rattle.mib_model.specs.declared.fault.MibFault.{MibFault}
use Rattle.mib_model.specs.declared.kind.Kind.{Kind}
use Rattle.mib_model.specs.declared.rows.Row.{Row}
use Rattle.mib_model.specs.DatabaseTexts.{database_read}
use Rattle.mib_model.specs.Drafts.{with_rows}
use Rattle.mib_model.specs.Kinds.{kind_name}
use Rattle.mib_model.specs.Reading.{table_of}
use Rattle.session.specs.declared.load_fault.LoadFault.{LoadFault}
use Rattle.session.specs.declared.load_fault.LoadFault.TheVariants as faults
use Rattle.mib_model.specs.declared.limits.TheConstants.{TABLE_MOST}

-- the octets of the file of each name that a shelf holds
abbrev pub Files : Type 0
Files = List ℕ → Option (List ℕ)

-- the file of a table in a folder
abbrev pub table_file : List ℕ → Kind → List ℕ
table_file folder table = folder ++ codes "/" ++ kind_name table ++ codes ".dat"

-- the octets of a file; one that isn't held has none
abbrev pub octets_of : Files → List ℕ → List ℕ
octets_of files name = unwrap_or (files name) []

-- as much of a file as is read: one octet more than the text of a table may have
unfoldable pub part_read : List ℕ → List ℕ
part_read octets = take (TABLE_MOST + 1) octets

-- the text of a table
abbrev pub table_text : Files → List ℕ → Kind → List ℕ
table_text files folder table = octets_of files (table_file folder table)

-- the rows of a table, or its first fault
abbrev pub read_in : Files → List ℕ → Kind → Result (List Row) MibFault
read_in files folder table = table_of table (table_text files folder table)

-- the database that the tables of a folder are, or the first fault of the first faulty one
unfoldable pub database_in : Files → List ℕ → Result Database MibFault
database_in files folder = database_read (table_text files folder)

-- a table of a database was given the rows that were read of it
abbrev pub Fills : Kind → Result (List Row) MibFault → Database → Database → Type 0
Fills table read old new = (rows : List Row) × (read ≡ Ok rows) × (new ≡ with_rows old table rows)

-- the fault that is answered is the one of what was read; a failure and want of memory say nothing of it
abbrev pub Refuses : {Made : Type 0} → LoadFault → Result Made MibFault → Type 0
Refuses (faults.Mib fault) read = read ≡ Err fault
Refuses other read = ⊤
