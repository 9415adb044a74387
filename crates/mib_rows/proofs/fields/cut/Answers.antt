use Rattle.std.proofs.Common.{◌∙◌, inr, ap, Some, rules}
use Rattle.std.specs.Prelude.{option_map}
use Rattle.csv.specs.Reading.{strip_bom}
use Rattle.mib_rows.proofs.CutFacts.{row-read, strip_bom-line}
use Rattle.mib_rows.proofs.fields.cut.Goals as goal

pub returns : goal.returns
returns c =
    let made = c.from_reader-reader.ensures in
    let reads = c.in_ok-read_byte_record.ensures.reads (made.trim ∙ search rules) (inr (inr (made.has_headers ∙ search rules, made.headers))) in
    let text = made.source ∙ ap (option_map strip_bom) c.chain.ensures.bytes ∙ ap Some (strip_bom-line c.args.line.now) in
    row-read _ _ _ _ _ _ _ c.args.line.now (made.config ∙ search rules) made.state text reads.0
