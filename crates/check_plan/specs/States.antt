-- Expected states with their counts. [SCOS-2000 Database Import ICD, ocp.]
use Rattle.std.specs.Prelude.{ℕ, ℤ, Bool, false, List, Option, Some, None, Result, Ok, Err}
use Rattle.std.specs.Ordering.{int_eq}
use Rattle.std.specs.Str.{bytes_eq}
use Rattle.check_plan.specs.declared.state.ExpectedState.{ExpectedState}
use Rattle.mib_model.specs.declared.number.Dec.{Dec}
use Rattle.mib_model.specs.declared.number.DecFault.{DecFault}
use Rattle.mib_model.specs.declared.number.Eng.{Eng}
use Rattle.mib_model.specs.declared.rows.Bound.{Bound}
use Rattle.mib_model.specs.declared.rows.Bound.TheVariants as bound
use Rattle.mib_model.specs.declared.rows.OcpRow.{OcpRow}
use Rattle.mib_model.specs.Checks.{Sample, Numbered, Worded}
use Rattle.mib_model.specs.Counts as counts
use Rattle.mib_model.specs.Decimals.{dec_of}
use Rattle.mib_model.specs.Kept.{Memory, is_met}

-- the count of a decimal that was read
abbrev pub count_read : Result Dec DecFault → Option Eng
count_read (Ok d) = Some (record { count = counts.count_of d })
count_read (Err fault) = None

-- the count of a text that reads as a decimal
abbrev pub count_in : List ℕ → Option Eng
count_in text = count_read (dec_of text)

-- the text of a bound that is one
abbrev pub words_in : Bound → Option (List ℕ)
words_in (bound.Words text) = Some text
words_in other = None

-- the count of a bound that is a text and reads as a decimal
abbrev pub words_count : Bound → Option Eng
words_count (bound.Words text) = count_in text
words_count other = None

-- the state that a row expects
abbrev pub state_of : OcpRow → ExpectedState
state_of row = record { text = words_in row.lvalu; count = words_count row.lvalu; rlchk = row.rlchk; valpar = row.valpar }

-- whether a count is expected
abbrev pub has_count : Option Eng → ℤ → Bool
has_count None count = false
has_count (Some value) count = int_eq count value.count

-- whether a text is expected
abbrev pub has_text : Option (List ℕ) → List ℕ → Bool
has_text None words = false
has_text (Some text) words = bytes_eq words text

-- whether a sample is in a state: a number by its count, a text by its octets
abbrev pub is_in_state : Sample → ExpectedState → Bool
is_in_state (Numbered count) state = has_count state.count count
is_in_state (Worded words) state = has_text state.text words

-- whether a state has no condition, or one that holds
abbrev pub asked_of : Memory → ExpectedState → Bool
asked_of memory state = is_met memory state.rlchk state.valpar
