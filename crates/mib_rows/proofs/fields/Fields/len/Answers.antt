use Rattle.std.proofs.Common.{◌∙◌, sym, ap, length, List, ℕ}
use Rattle.csv.specs.Records.{fields_of}
use Rattle.mib_rows.proofs.FieldFacts.{length-without_last_return}
use Rattle.mib_rows.proofs.fields.Fields.len.Goals as goal

pub returns : goal.returns
returns c = c.len-2.ensures ∙ sym (length-without_last_return (fields_of c.self.inside.cells)) ∙ ap (length {A = List ℕ}) (rw c.if-self.false at c.self.view_is)
