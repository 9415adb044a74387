use Rattle.csv.specs.Records.{fields_of}
use Rattle.mib_rows.proofs.TextFacts.{line-read, record-next}
use Rattle.mib_rows.proofs.fields.Fields.read.Goals.{in-Ok, in-Err}
use Rattle.mib_rows.proofs.fields.Fields.read.Goals as goal

pub returns-clause-line : goal.returns-clause-line
returns-clause-line c = elim c.match-read_byte_record.branch [
  | in-Ok w ↦
      let reads = (rw w.in-Ok.is at c.read_byte_record.ensures.reads) c.requires.trim c.requires.ready in
      rw w.result-is (line-read c.args.reader.now c.read_byte_record.new.self w.in-Ok.found (fields_of c.read_byte_record.new.row) c.requires reads).line
  | in-Err w ↦ rw w.result-is tt
]

pub returns-clause-at_record : goal.returns-clause-at_record
returns-clause-at_record c = elim c.match-read_byte_record.branch [
  | in-Ok w ↦
      let reads = (rw w.in-Ok.is at c.read_byte_record.ensures.reads) c.requires.trim c.requires.ready in
      let first = rw w.in-Ok.is at (c.read_byte_record.ensures.ready c.requires.trim) in
      rw w.result-is (record-next c.args.reader.now c.read_byte_record.new.self w.in-Ok.found (fields_of c.read_byte_record.new.row) c.requires reads first)
  | in-Err w ↦ rw w.result-is tt
]
