-- How a sample stands to the checks of its parameter. [SCOS-2000 Database Import ICD, ocf and ocp; the order of the classes and the
-- rules of a violation are this profile's.]
use Rattle.std.specs.Prelude.{ℕ, ℤ, ◌-ℤ◌, int_lt, Bool, false, List, Option, Some, None, ◌==◌, ◌&&◌, ◌||◌, not, if◌then◌else◌, filter, Result, Ok, Err}
use Rattle.std.specs.List.{list_any}
use Rattle.std.specs.Ordering.{int_eq}
use Rattle.std.specs.Str.{bytes_eq}
use Rattle.mib_model.specs.declared.check.Class.{Class}
use Rattle.mib_model.specs.declared.check.Class.TheVariants.{Nominal, Hard, Status, Delta, Soft}
use Rattle.mib_model.specs.declared.number.Dec.{Dec}
use Rattle.mib_model.specs.declared.number.DecFault.{DecFault}
use Rattle.mib_model.specs.declared.rows.Bound.{Bound}
use Rattle.mib_model.specs.declared.rows.Bound.TheVariants as bound
use Rattle.mib_model.specs.declared.rows.OcpRow.{OcpRow}
use Rattle.mib_model.specs.Database.{Database}
use Rattle.mib_model.specs.Decimals.{dec_of}
use Rattle.mib_model.specs.Counts.{count_of}
use Rattle.mib_model.specs.Kept.{Memory, is_met}
use Rattle.mib_model.specs.Letters.{letter}
use Rattle.mib_model.specs.Orders.{sorted_by_number}

-- what is checked: a count of 10^-12, or a status text
pub data Sample : Type 0 where
  Numbered : (count : ℤ) → Sample
  Worded : (text : List ℕ) → Sample

-- a hard limit: `H`
abbrev pub is_hard : OcpRow → Bool
is_hard row = row.sort == letter "H"

-- a soft limit: `S`
abbrev pub is_soft : OcpRow → Bool
is_soft row = row.sort == letter "S"

-- a limit of the step from the last number that was checked: `D`
abbrev pub is_delta : OcpRow → Bool
is_delta row = row.sort == letter "D"

-- an expected state: `C`
abbrev pub is_status : OcpRow → Bool
is_status row = row.sort == letter "C"

-- the checks of a parameter, by POS
unfoldable pub checks_of : Database → List ℕ → List OcpRow
checks_of db name = sorted_by_number (λ row. row.pos) (filter (λ row. bytes_eq row.name name) db.ocp)

-- a check applies where it has no condition, or where its condition holds
abbrev pub applies : Memory → OcpRow → Bool
applies memory row = is_met memory row.rlchk row.valpar

-- a count below a bound; a bound that is empty or a text doesn't bind
abbrev pub is_below : Bound → ℤ → Bool
is_below (bound.Number d) count = int_lt count (count_of d)
is_below other count = false

-- a count above a bound; a bound that is empty or a text doesn't bind
abbrev pub is_above : Bound → ℤ → Bool
is_above (bound.Number d) count = int_lt (count_of d) count
is_above other count = false

-- a count below the low bound or above the high one
abbrev pub is_out : OcpRow → ℤ → Bool
is_out row count = is_below row.lvalu count || is_above row.hvalu count

-- a limit is violated by a number out of its bounds, and by no text
abbrev pub violates_limit : Sample → OcpRow → Bool
violates_limit (Numbered count) row = is_out row count
violates_limit (Worded text) row = false

-- whether the step from the number before, if there was one, is out of the bounds of a row
abbrev pub is_out_from : Option ℤ → ℤ → OcpRow → Bool
is_out_from None count row = false
is_out_from (Some previous) count row = is_out row (count -ℤ previous)

-- a delta is violated by a number too far from the last that was checked, and by no text
abbrev pub violates_delta : Option ℤ → Sample → OcpRow → Bool
violates_delta previous (Numbered count) row = is_out_from previous count row
violates_delta previous (Worded text) row = false

-- whether a text reads as a decimal of this count
abbrev pub is_count_of : ℤ → Result Dec DecFault → Bool
is_count_of count (Ok d) = int_eq count (count_of d)
is_count_of count (Err fault) = false

-- a sample agrees with a state: a text by its octets, a number by its count
abbrev pub agrees_with : Sample → Bound → Bool
agrees_with (Numbered count) (bound.Words text) = is_count_of count (dec_of text)
agrees_with (Worded words) (bound.Words text) = bytes_eq words text
agrees_with sample other = false

-- the class of a sample by the checks that apply
abbrev pub class_by : List OcpRow → Sample → Option ℤ → Class
class_by rows sample previous =
    if list_any (λ row. is_hard row && violates_limit sample row) rows then Hard
    else if list_any is_status rows && not (list_any (λ row. is_status row && agrees_with sample row.lvalu) rows) then Status
    else if list_any (λ row. is_delta row && violates_delta previous sample row) rows then Delta
    else if list_any (λ row. is_soft row && violates_limit sample row) rows then Soft
    else Nominal

-- the class of a sample, by the checks of its parameter, the number before and the conditions
unfoldable pub class_of : List OcpRow → Sample → Option ℤ → Memory → Class
class_of rows sample previous memory = class_by (filter (applies memory) rows) sample previous
