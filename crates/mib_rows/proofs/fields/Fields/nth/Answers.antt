use Rattle.std.proofs.Common.{◌∙◌, [], sym, ap, List, ℕ}
use Rattle.std.specs.Prelude.{slice_get, unwrap_or}
use Rattle.std.specs.Str.Lines.{strip_carriage_return}
use Rattle.csv.specs.Records.{fields_of}
use Rattle.mib_rows.proofs.FieldFacts.{cell-behind, cell-inner, cell-last}
use Rattle.mib_rows.proofs.fields.Fields.nth.Goals as goal

pub returns-then-self : goal.returns-then-self
returns-then-self c = c.cell.ensures ∙ cell-behind (fields_of c.self.inside.cells) c.args.at
    ∙ ap (λ (row : List (List ℕ)). unwrap_or (slice_get row c.args.at) []) (rw c.if-self.true at c.self.view_is)

pub returns-then-at-len : goal.returns-then-at-len
returns-then-at-len c = c.without_return.ensures ∙ ap strip_carriage_return c.cell-field.ensures
    ∙ cell-last (fields_of c.self.inside.cells) c.args.at (c.if-at-len.true ∙ c.len.ensures)
    ∙ ap (λ (row : List (List ℕ)). unwrap_or (slice_get row c.args.at) []) (rw c.if-self.false at c.self.view_is)

pub returns : goal.returns
returns c = c.cell-field.ensures ∙ cell-inner (fields_of c.self.inside.cells) c.args.at (λ last. c.if-at-len.false (last ∙ sym c.len.ensures))
    ∙ ap (λ (row : List (List ℕ)). unwrap_or (slice_get row c.args.at) []) (rw c.if-self.false at c.self.view_is)
