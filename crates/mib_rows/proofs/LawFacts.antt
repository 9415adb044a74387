-- What is written is read again.
use Rattle.std.proofs.Common.{◌≡◌, ◌∙◌, ℕ, List, Result, Ok, Err, ap, refl}
use Rattle.std.specs.Prelude.{IfOk}
use Rattle.mib_model.specs.declared.rows.Row.{Row}
use Rattle.mib_model.specs.Fitting.{FitsRow}
use Rattle.mib_model.specs.RowTexts.{kind_in, line_of}
use Rattle.mib_model.specs.Reading.{row_read}
use Rattle.mib_rows.specs.Laws.{WrittenIsRead}
use Rattle.mib_rows.proofs.RowFacts.{row-again}

pub written_is_read : WrittenIsRead
unfolding row_read
written_is_read r fits = rw (row-again r fits) refl

pub again_if : {V E : Type 0} (items : V → List ℕ) (result : Result V E) (r : Row) → IfOk result (λ line. items line ≡ line_of r)
    → IfOk result (λ line. FitsRow r → row_read (kind_in r) (items line) ≡ Ok r)
again_if items (Ok line) r is = λ fits. ap (row_read (kind_in r)) is ∙ written_is_read r fits
again_if items (Err fault) r is = tt
