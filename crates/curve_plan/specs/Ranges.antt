-- Ranges of raw numbers with their status texts. [SCOS-2000 Database Import ICD, txp.]
use Rattle.std.specs.Prelude.{◌≡◌, ℕ, ℤ, int_le, int_lt, Bool, true, ◌&&◌, List, length, Option, Some, None}
use Rattle.std.specs.List.{AllAdjacentBelow}
use Rattle.curve_plan.specs.declared.ranges.Range.{Range}
use Rattle.mib_model.specs.declared.rows.TxpRow.{TxpRow}
use Rattle.mib_model.specs.Calibrated.{Calibrated, StatusText, NoText}
use Rattle.mib_model.specs.WholeNumbers.{decimal_whole}

-- the range from one bound to another, where both are there
abbrev pub range_by : Option ℤ → Option ℤ → List ℕ → Option Range
range_by None high text = None
range_by (Some low) None text = None
range_by (Some low) (Some high) text = Some (record { low = low; high = high; text = text })

-- the range of a row, where its bounds are whole numbers
abbrev pub range_of : TxpRow → Option Range
range_of row = range_by (decimal_whole row.low) (decimal_whole row.high) row.altxt

-- whether a range holds a raw number
abbrev pub holds_raw : ℤ → Range → Bool
holds_raw raw range = int_le range.low raw && int_le raw range.high

-- the text of a range, or that there is none
abbrev pub text_of_range : Option Range → Calibrated
text_of_range None = NoText
text_of_range (Some range) = StatusText range.text

-- whether a range begins no later than another, and ends before it begins
abbrev pub precedes : Range → Range → Bool
precedes range next = int_le range.low next.low && int_lt range.high next.low

-- each range precedes the next
abbrev pub AreSeparate : List Range → Type 0
AreSeparate ranges = AllAdjacentBelow (λ range next. precedes range next ≡ true) ranges (length ranges)
