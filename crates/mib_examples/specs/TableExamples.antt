-- Lines, fields, rows, keys and first faults. [This profile.]
use Rattle.std.specs.Prelude.{◌≡◌, ℕ, [], ◌∷◌, codes, Ok, Err, Some, None, true, false, map}
use Rattle.mib_model.specs.declared.fault.MibCode.TheVariants as code
use Rattle.mib_model.specs.declared.fault.MibFault.{MibFault}
use Rattle.mib_model.specs.declared.key.Key.TheVariants as key
use Rattle.mib_model.specs.declared.kind.Kind.{Kind}
use Rattle.mib_model.specs.declared.kind.Kind.TheVariants as kind
use Rattle.mib_model.specs.declared.rows.Row.TheVariants as row
use Rattle.mib_model.specs.declared.tables.Tables.{Tables}
use Rattle.mib_model.specs.Database.{database_of}
use Rattle.mib_model.specs.Drafts.{rows_of}
use Rattle.mib_model.specs.Keys.{same_key}
use Rattle.mib_model.specs.Kinds.{kind_named}
use Rattle.mib_model.specs.Lines.{lines, fields, trimmed}
use Rattle.mib_model.specs.Names.{name_of, text_of}
use Rattle.mib_model.specs.Reading.{row_read, key_read}
use Rattle.mib_model.specs.RowTexts.{line_of}
use Rattle.mib_examples.specs.Given.{given, shared, table, first_fault}

-- a fault of a row's column
abbrev pub in_column : Kind → ℕ → ℕ → MibFault
in_column table number column = record { table = table; row = number; column = column; first = 0; code = code.BadNumber }

-- lines, fields, names and texts
pub record TextExamples : Type 0 where
  pub lines : lines (codes "a\r\n\nb\r\r\n\r\nc") ≡ codes "a" ∷ codes "b\r" ∷ codes "c" ∷ []
  pub fields : fields (codes "a\t\tb") ≡ codes "a" ∷ [] ∷ codes "b" ∷ []
  pub trimmed : trimmed (codes "  a b ") ≡ codes "a b"
  pub name : name_of (codes "T1") ≡ Some (codes "T1")
  pub no_name : name_of (codes "T 1") ≡ None
  pub empty_text : text_of [] ≡ Some []
  pub kind : kind_named (codes "tpcf") ≡ Some kind.Tpcf
  pub no_kind : kind_named (codes "PCF") ≡ None

-- rows and keys read from lines
pub record RowExamples : Type 0 where
  pub place : row_read kind.Plf (table (codes "T1|4001|10|0"))
      ≡ Ok (row.Plf (record { name = codes "T1"; spid = 4001; offby = 10; offbi = 0; nbocc = 1; lgocc = 0 }))
  pub too_few : row_read kind.Plf (table (codes "T1|4001|10")) ≡ Err (record { table = kind.Plf; row = 0; column = 0; first = 0; code = code.FewFields })
  pub number : row_read kind.Plf (table (codes "T1|4001|10|8")) ≡ Err (in_column kind.Plf 0 4)
  pub packet_key : key_read kind.Pic (table (codes "3|25|")) ≡ Ok (key.Pic 3 25 None)
  pub key_column : key_read kind.Pid (codes "x") ≡ Err (in_column kind.Pid 0 6)
  pub keys_by_value : same_key (key.Tpcf 7) (key.Tpcf 7) ≡ true
  pub keys_by_table : same_key (key.Tpcf 7) (key.Pid 7) ≡ false
  pub line : line_of (row.Tpcf (record { spid = 4001; name = Some (codes "HK") })) ≡ table (codes "4001|HK")

-- the first fault of the shared tables with one changed
pub record FirstFaultExamples : Type 0 where
  pub none : first_fault shared ≡ []
  pub mark : first_fault (given kind.Pcf (0xEF ∷ 0xBB ∷ 0xBF ∷ codes "T1\n") shared) ≡ codes "pcf 0 MARK"
  pub number : first_fault (given kind.Mcf (table (codes "M1||1\nM2||1\nM3||1|x\n")) shared) ≡ codes "mcf 3 BADNUMBER 4"
  pub few_fields : first_fault (given kind.Plf (table (codes "T1|4001|10\n")) shared) ≡ codes "plf 1 FEWFIELDS"
  pub letter : first_fault (given kind.Pcf (table (codes "T1||||3|12||||N|r\n")) shared) ≡ codes "pcf 1 BADCODE 11"
  pub reference : first_fault (given kind.Plf (table (codes "T1|4009|10|0\n")) shared) ≡ codes "plf 1 NOREF 2"
  pub type_of : first_fault (given kind.Pcf (table (codes "T1||||3|17||||N|R\n")) shared) ≡ codes "pcf 1 BADTYPE"
  pub points : first_fault (given kind.Cap (table (codes "C1|0|0\n")) (given kind.Caf (table (codes "C1\n")) shared)) ≡ codes "caf 1 POINTS"
  pub packet_twice : first_fault (given kind.Pid (table (codes "3|25|100|||4001\n3|25|100|||4002\n")) shared) ≡ codes "pid 2 TWICE 1"
  pub name_twice : first_fault (given kind.Pcf (table (codes "T1||||3|12||||N|R\nT1||||3|4||||N|R\n")) shared) ≡ codes "pcf 2 TWICE 1"
  pub width : first_fault (given kind.Pcf (table (codes "T1||||3|12|8|||N|R\n")) shared) ≡ codes "pcf 1 WIDTH"
  pub both : first_fault (given kind.Lgf (codes "L1\n") (given kind.Cur (table (codes "T1|1|T1|1|L1\n"))
      (given kind.Pcf (table (codes "T1||||3|12||||N|R|L1\n")) shared))) ≡ codes "pcf 1 BOTH"
  pub group : first_fault (given kind.Vpd (table (codes "10|1|T1|1\n")) shared) ≡ codes "vpd 1 GROUP"
  pub inner_group : first_fault (given kind.Vpd (table (codes "10|1|T1|1\n10|2|T1|1\n10|3|T1\n")) shared) ≡ codes "vpd 2 GROUP"

-- the database that tables in memory are, whatever their rows
pub record DatabaseExamples (t : Tables) : Type 0 where
  pub curves : rows_of (database_of t) kind.Caf ≡ map row.Caf t.caf.items
  pub points : rows_of (database_of t) kind.Cap ≡ map row.Cap t.cap.items
  pub texts : rows_of (database_of t) kind.Txp ≡ map row.Txp t.txp.items
