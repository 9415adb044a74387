-- A sheet as it lies in memory: a text, events, and the numbers that they take. [This profile.]
use Rattle.std.specs.Prelude.{◌≡◌, ℕ, ℤ, pos, neg_ℤ, Bool, if◌then◌else◌, min, ◌≤◌, List, [], ◌∷◌, length, take, drop, get_or, Some, None}
use Rattle.line_sheets.specs.declared.reading.SheetWork.{SheetWork}
use Rattle.line_sheets.specs.declared.reading.SheetWork.TheVariants as work
use Rattle.line_sheets.specs.declared.sheet.Deed.{Deed}
use Rattle.line_sheets.specs.declared.sheet.Deed.TheVariants as deed
use Rattle.line_sheets.specs.declared.sheet.SheetEvent.{SheetEvent}
use Rattle.line_sheets.specs.Sheets.{Act, Calmed, Entered, Opened, Run, SheetView}
use Rattle.mib_model.specs.declared.number.Eng.{Eng}

-- the farthest from 0 that a raw number below 0 is
abbrev pub most_below : ℕ
most_below = 9223372036854775808

-- a raw number by its sign and how far it is from 0
abbrev pub held_raw : Bool → ℕ → ℤ
held_raw below magnitude = if below then neg_ℤ (pos (min magnitude most_below)) else pos magnitude

-- how many raw numbers a deed takes
abbrev pub raws_taken : Deed → ℕ
raws_taken (deed.Enter below) = 1
raws_taken (deed.OpenRaw below) = 1
raws_taken other = 0

-- how many numbers of samples a deed takes
abbrev pub counts_taken : Deed → ℕ
counts_taken deed.Calm = 1
counts_taken other = 0

-- the raw number that goes with a deed, where it takes one
abbrev pub raws_of : Deed → ℕ → List ℕ
raws_of (deed.Enter below) raw = raw ∷ []
raws_of (deed.OpenRaw below) raw = raw ∷ []
raws_of other raw = []

-- the number of a sample that goes with a deed, where it takes one
abbrev pub counts_of : Deed → Eng → List Eng
counts_of deed.Calm number = number ∷ []
counts_of other number = []

-- no number
abbrev pub no_count : Eng
no_count = record { count = pos 0 }

-- the act of a deed, by the first of the numbers that are left
abbrev pub act_of : ℕ → Deed → ℕ → Eng → Act
act_of seat (deed.Enter below) raw number = Entered seat (held_raw below raw)
act_of seat deed.Calm raw number = Calmed seat number.count
act_of seat deed.Open raw number = Opened seat None
act_of seat (deed.OpenRaw below) raw number = Opened seat (Some (held_raw below raw))

-- the runs of events, the first of which begins at an octet; they take the numbers in their order
abbrev pub runs_in : List ℕ → ℕ → List SheetEvent → List ℕ → List Eng → List Run
runs_in text start [] raws counts = []
runs_in text start (e ∷ es) raws counts =
    (drop start (take e.at text), act_of e.seat e.deed (get_or raws 0 0) (get_or counts 0 no_count)) ∷
    runs_in text e.at es (drop (raws_taken e.deed) raws) (drop (counts_taken e.deed) counts)

-- where the text behind the last event begins
abbrev pub last_at : ℕ → List SheetEvent → ℕ
last_at start [] = start
last_at start (e ∷ es) = last_at e.at es

-- what is left of a sheet, from an octet of its text on
abbrev pub sheet_from : List ℕ → ℕ → List SheetEvent → List ℕ → List Eng → SheetView
sheet_from text start events raws counts = record { runs = runs_in text start events raws counts; tail = drop (last_at start events) text; size = length text }

-- the sheet of a text, of events and of their numbers
abbrev pub sheet_in : List ℕ → List SheetEvent → List ℕ → List Eng → SheetView
sheet_in text events raws counts = sheet_from text 0 events raws counts

-- the act that a seat and what is to be done there are
abbrev pub act_as : ℕ → SheetWork → Act
act_as seat (work.Enter raw) = Entered seat raw
act_as seat (work.Calm number) = Calmed seat number.count
act_as seat (work.Open raw) = Opened seat raw

-- events stand in their order, none behind the end of the text, and there are as many numbers as they take
abbrev pub AreHeld : ℕ → List SheetEvent → List ℕ → List Eng → ℕ → Type 0
AreHeld start [] raws counts end = (start ≤ end) × (length raws ≡ 0) × (length counts ≡ 0)
AreHeld start (e ∷ es) raws counts end =
    (start ≤ e.at) × (raws_taken e.deed ≤ length raws) × (counts_taken e.deed ≤ length counts)
    × AreHeld e.at es (drop (raws_taken e.deed) raws) (drop (counts_taken e.deed) counts) end
