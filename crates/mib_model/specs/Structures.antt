-- The structures of packets of variable structure, and what their rows say. [SCOS-2000 Database Import ICD, vpd and pcf; this profile.]
use Rattle.std.specs.Prelude.{ℕ, ℤ, pos, negsuc, Bool, List, ◌++◌, take, drop, filter, ◌==◌, ◌&&◌, not, if◌then◌else◌, Option, Some, option_map, option_and_then}
use Rattle.std.specs.List.{find, repeat}
use Rattle.std.specs.Option.{option_eq}
use Rattle.std.specs.Ordering.{int_eq}
use Rattle.mib_model.specs.declared.rows.PcfRow.{PcfRow}
use Rattle.mib_model.specs.declared.rows.VpdRow.{VpdRow}
use Rattle.mib_model.specs.Database.{Database}
use Rattle.mib_model.specs.Encodings.{Encoding}
use Rattle.mib_model.specs.Letters.{letter}
use Rattle.mib_model.specs.Orders.{sorted_by_number}
use Rattle.mib_model.specs.Parameters.{parameter, is_measured, parameter_encoding}

-- the rows of a structure by POS; none where there is no such structure
unfoldable pub structure : Database → ℤ → List VpdRow
structure db tpsd = sorted_by_number (λ row. row.pos) (filter (λ row. int_eq (pos row.tpsd) tpsd) db.vpd)

-- a parameter whose type is that of another: PTC 11
abbrev pub is_deduced : PcfRow → Bool
is_deduced row = row.ptc == 11

-- the first measured parameter of a PCF_PID, deduced ones left out
unfoldable pub deduced : Database → ℤ → Option PcfRow
deduced db pid = find (λ row. is_measured row && not (is_deduced row) && option_eq int_eq (option_map pos row.pid) (Some pid)) db.pcf

-- the parameter that a row gives a value of: its own, or the deduced one where its own has PTC 11
abbrev pub own_or_deduced : Database → ℤ → PcfRow → Option PcfRow
own_or_deduced db last row = if is_deduced row then deduced db last else Some row

-- the parameter that a row gives a value of
abbrev pub subject : Database → ℤ → VpdRow → Option PcfRow
subject db last row = option_and_then (own_or_deduced db last) (parameter db.pcf row.name)

-- a parameter beside what its bits are
abbrev pub Typed : Type 0
Typed = PcfRow × Encoding

-- a parameter with its encoding, where its type is known
abbrev pub typed : PcfRow → Option Typed
typed row = option_map (λ e. (row, e)) (parameter_encoding row)

-- a code `Y`
abbrev pub is_yes : ℕ → Bool
is_yes octet = octet == letter "Y"

-- how often a raw value says that a group is walked
abbrev pub times : ℤ → ℕ
times (pos n) = n
times (negsuc n) = 0

-- the next rows, so many of them, walked some times, and then the rows behind them
abbrev pub group_repeated : ℕ → ℕ → List VpdRow → List VpdRow
group_repeated size n rest = repeat n (take size rest) ++ drop size rest

-- how far a value moves the walk: by its parameter's WIDTH where that is given, else by its type's width
abbrev pub moved_by : Typed → ℕ
moved_by t = if t.0.width == 0 then t.1.width else t.0.width
