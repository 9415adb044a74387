-- The forms of fields, and what the octets of a field are in its form. [This profile, after the SCOS-2000
-- Database Import ICD.]
use Rattle.std.specs.Prelude.{ℕ, Bool, true, false, List, [], ok_or, ℤ, pos, Result, Ok, Err}
use Rattle.mib_model.specs.declared.fault.MibCode.{MibCode}
use Rattle.mib_model.specs.declared.fault.MibCode.TheVariants.{BadNumber, BadCode, BadName}
use Rattle.mib_model.specs.declared.line_fault.LineFault.{LineFault}
use Rattle.mib_model.specs.declared.number.Dec.{Dec}
use Rattle.mib_model.specs.declared.number.DecFault.{DecFault}
use Rattle.mib_model.specs.declared.rows.Bound.{Bound}
use Rattle.mib_model.specs.declared.rows.Bound.TheVariants as bound
use Rattle.mib_model.specs.Attempts.{made_into}
use Rattle.mib_model.specs.Decimals.{dec_of}
use Rattle.mib_model.specs.Lines.{trimmed}
use Rattle.mib_model.specs.Names.{name_of, text_of}
use Rattle.mib_model.specs.Numbers.{number_of, size, code_of, capital_of}
use Rattle.mib_model.specs.declared.limits.TheConstants.{ID_MOST, RAW_LEAST, RAW_MOST}

-- the form of a field; a bound is a text where the check is of states, and else a decimal or empty
pub data Form : Type 0 where
  Named : Form
  Natural : (low high : ℕ) → Form
  Integer : (low high : ℤ) → Form
  Letter : (letters : List ℕ) → Form
  Capital : Form
  Decimal : Form
  AnyText : Form
  Bounding : (states : Bool) → Form

-- the numbers of packets: the range of SPID, from 1 on, in each table that names one
abbrev pub row_id : Form
row_id = Natural 1 ID_MOST

-- the range of raw numbers
abbrev pub whole_range : Form
whole_range = Integer RAW_LEAST RAW_MOST

-- what a field of a form is
abbrev pub Content : Form → Type 0
Content Named = List ℕ
Content (Natural low high) = ℕ
Content (Integer low high) = ℤ
Content (Letter letters) = ℕ
Content Capital = ℕ
Content Decimal = Dec
Content AnyText = List ℕ
Content (Bounding states) = Bound

-- the decimal 0
abbrev pub zero_decimal : Dec
zero_decimal = record { m = pos 0; e = pos 0 }

-- what an empty bound is
abbrev pub no_bound : Bool → Bound
no_bound true = bound.Words []
no_bound false = bound.Empty

-- a fault of a column
abbrev pub fault_in : ℕ → MibCode → LineFault
fault_in number code = record { column = number; code = code }

-- a decimal, or the fault of its column
abbrev pub decimal_in : ℕ → Result Dec DecFault → Result Dec LineFault
decimal_in number (Ok decimal) = Ok decimal
decimal_in number (Err why) = Err (fault_in number BadNumber)

-- the octets of a field that count: all those of a text, and else those between the spaces at its ends
abbrev pub counted : Form → List ℕ → List ℕ
counted AnyText octets = octets
counted (Bounding true) octets = octets
counted other octets = trimmed octets

-- what octets are in a form, or the fault of the column with this number
unfoldable pub content_of : (form : Form) → ℕ → List ℕ → Result (Content form) LineFault
content_of Named number octets = ok_or (name_of octets) (fault_in number BadName)
content_of (Natural low high) number octets = made_into size (ok_or (number_of (pos low) (pos high) octets) (fault_in number BadNumber))
content_of (Integer low high) number octets = ok_or (number_of low high octets) (fault_in number BadNumber)
content_of (Letter letters) number octets = ok_or (code_of letters octets) (fault_in number BadCode)
content_of Capital number octets = ok_or (capital_of octets) (fault_in number BadCode)
content_of Decimal number octets = decimal_in number (dec_of octets)
content_of AnyText number octets = ok_or (text_of octets) (fault_in number BadName)
content_of (Bounding true) number octets = made_into bound.Words (ok_or (text_of octets) (fault_in number BadName))
content_of (Bounding false) number octets = made_into bound.Number (decimal_in number (dec_of octets))
