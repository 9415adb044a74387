-- The values that items are in a packet: at the places of its fixed layout, or along the walk over its structure. [This profile.]
use Rattle.std.specs.Prelude.{ℕ, min, ◌+◌, ◌-◌, ◌^◌, ℤ, pos, negsuc, neg_ℤ, int_le, int_lt, Bool, List, [], ◌∷◌, length, slice_get, nat_le, ◌==◌, ◌&&◌, if◌then◌else◌, Option, Some, None, unwrap_or, Result, Ok, Err}
use Rattle.std.specs.Ordering.{int_eq}
use Rattle.std.specs.Str.{bytes_eq}
use Rattle.mib_model.specs.declared.database.Database.{Database}
use Rattle.mib_model.specs.declared.packet.Ended.TheVariants.{Whole, Short, Many}
use Rattle.mib_model.specs.declared.packet.Value.{Value}
use Rattle.mib_model.specs.declared.rows.PidRow.{PidRow}
use Rattle.mib_model.specs.declared.shape.Sort.{Sort}
use Rattle.mib_model.specs.declared.shape.Sort.TheVariants.{Unsigned, Signed}
use Rattle.mib_model.specs.Attempts.{◌>>=◌}
use Rattle.mib_model.specs.Encodings.{Encoding}
use Rattle.mib_model.specs.Fixed.{Place, places, most_values, has_layout}
use Rattle.mib_model.specs.Walk.{walk_limit, walk_start}
use Rattle.struct_plan.specs.declared.entry.ValueField.{ValueField}
use Rattle.struct_plan.specs.declared.numbers.WalkEnd.{WalkEnd}
use Rattle.struct_plan.specs.declared.numbers.WalkEnd.TheVariants.{Ended, Missing, Unfit}
use Rattle.struct_plan.specs.Sources.{Source, Walked, walked_by}
use Rattle.build_rules.specs.declared.fault.BuildFault.{BuildFault}
use Rattle.build_rules.specs.declared.fault.BuildFault.TheVariants.{Items, Range, Ends}
use Rattle.build_rules.specs.declared.item.Item.{Item}

-- whether a number lies from a least one on and below a bound
abbrev pub lies_from_to : ℤ → ℤ → ℤ → Bool
lies_from_to least bound n = int_le least n && int_lt n bound

-- whether a raw number is one of a sort of so many bits; a sort without numbers has 0 alone
abbrev pub fits_sort : Sort → ℕ → ℤ → Bool
fits_sort Unsigned width n = lies_from_to (pos 0) (pos (2 ^ width)) n
fits_sort Signed width n = lies_from_to (neg_ℤ (pos (2 ^ (width - 1)))) (pos (2 ^ (width - 1))) n
fits_sort other width n = int_eq n (pos 0)

-- whether a raw number is one of an encoding
abbrev pub fits : Encoding → ℤ → Bool
fits e n = fits_sort e.sort e.width n

-- the raw number of an item, if there is one and it has this name
abbrev pub raw_of : Option Item → List ℕ → Result ℤ WalkEnd
raw_of None name = Err Missing
raw_of (Some item) name = if bytes_eq item.name name then Ok item.raw else Err Missing

-- a raw number of an encoding as a value at a bit
abbrev pub value_if_fit : List ℕ → Encoding → ℕ → ℤ → Result Value WalkEnd
value_if_fit name shape at raw = if fits shape raw then Ok (record { name = name; at = at; raw = raw; shape = shape }) else Err Unfit

-- the last bit that a value may be told to begin at; it lies far behind each packet
abbrev pub last_bit : ℕ
last_bit = 2 ^ 64 - 1

-- a raw number of an encoding as a value at a cursor, which may not stand before the packet; behind the last bit it counts as that
abbrev pub value_laid : List ℕ → Encoding → ℤ → ℤ → Result Value WalkEnd
value_laid name shape (negsuc n) raw = Err (Ended (Short name))
value_laid name shape (pos at) raw = value_if_fit name shape (min at last_bit) raw

-- items as a source of values: each is the value behind as many others as there are items before it
abbrev pub of_items : List Item → Source
of_items items cursor field given = raw_of (slice_get items given) field.name >>= value_laid field.name field.shape cursor

-- ---- a fixed layout

-- what a value at a place is of
abbrev pub field_there : Place → ValueField
field_there place = record { name = place.name; shape = place.shape; moves = 0 }

-- values with one more in front, or none where it isn't there
abbrev pub behind_value : Result Value WalkEnd → Walked → Walked
behind_value (Err why) more = ([], why)
behind_value (Ok v) more = (v ∷ more.0, more.1)

-- the values that a source has at places, behind so many others, and why they end
unfoldable pub values_from : Source → ℕ → List Place → Walked
values_from source given [] = ([], Ended Whole)
values_from source given (place ∷ places) =
    if given == most_values then ([], Ended Many)
    else behind_value (source (pos place.at) (field_there place) given) (values_from source (given + 1) places)

-- ---- the items of a packet

-- the values that a source has for a packet of a row, and why they end
unfoldable pub values_by : Database → PidRow → Source → Walked
values_by db row source =
    if has_layout row then values_from source 0 (places db row.spid)
    else unwrap_or (walked_by db source (walk_limit db) (walk_start db row.tpsd row.dfhsize)) ([], Ended Whole)

-- the fault at the place behind so many values that end so, which so many items are to be
abbrev pub fault_at : ℕ → ℕ → WalkEnd → Option BuildFault
fault_at items laid Missing = Some (Items (laid + 1))
fault_at items laid Unfit = Some (Range (laid + 1))
fault_at items laid (Ended Whole) = if nat_le items laid then None else Some (Items (laid + 1))
fault_at items laid (Ended ended) = Some (Ends ended)

-- values, unless there is a fault
abbrev pub unless_fault : List Value → Option BuildFault → Result (List Value) BuildFault
unless_fault values None = Ok values
unless_fault values (Some fault) = Err fault

-- the values that items are in a packet of a row, or why they can't be
abbrev pub laid : Database → PidRow → List Item → Result (List Value) BuildFault
laid db row items =
    let (values, why) = values_by db row (of_items items) in
    unless_fault values (fault_at (length items) (length values) why)
