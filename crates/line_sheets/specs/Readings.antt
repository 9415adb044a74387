-- What is left of a sheet that is read, and of one that is played. [This profile.]
use Rattle.std.specs.Prelude.{◌≡◌, ◌+◌, ◌≤ℤ◌, ℕ, List, ◌∷◌, ◌++◌, length, take, drop, IfSome}
use Rattle.std.specs.List.{flat_map}
use Rattle.line_sheets.specs.declared.reading.SheetWork.{SheetWork}
use Rattle.line_sheets.specs.declared.reading.SheetWork.TheVariants as work
use Rattle.line_sheets.specs.declared.sheet.SheetEvent.{SheetEvent}
use Rattle.line_sheets.specs.Pieces.{Played}
use Rattle.line_sheets.specs.Lying.{act_as, sheet_from}
use Rattle.line_sheets.specs.Sheets.{Run, SheetView}
use Rattle.mib_model.specs.declared.number.Eng.{Eng}
use Rattle.mib_model.specs.Kept.{Memory}
use Rattle.mib_model.specs.WholeNumbers.{least_raw, greatest_raw}

-- the first run was taken off what is left of a sheet
pub record IsTaken (octets : List ℕ) (seat : ℕ) (w : SheetWork) (old new : SheetView) : Type 0 where
  pub runs : old.runs ≡ (octets, act_as seat w) ∷ new.runs
  pub tail : old.tail ≡ new.tail

-- a raw number that is to be entered or finished is one
abbrev pub HasRaw : SheetWork → Type 0
HasRaw (work.Enter raw) = (least_raw ≤ℤ raw) × (raw ≤ℤ greatest_raw)
HasRaw (work.Calm number) = Unit {0}
HasRaw (work.Open raw) = IfSome raw (λ number. (least_raw ≤ℤ number) × (number ≤ℤ greatest_raw))

-- how many octets a sheet has
abbrev pub held_size : SheetView → ℕ
held_size sheet = length (flat_map (λ (run : Run). run.0) sheet.runs) + length sheet.tail

-- what is left of a sheet, and the octets in front of it that were not handed out yet
pub record LeftView : Type 0 where
  pub pending : List ℕ
  pub left : SheetView

-- the first run was passed: its octets are pending behind the others
pub record IsPassed (seat : ℕ) (w : SheetWork) (old new : LeftView) : Type 0 where
  pub octets : List ℕ
  pub taken : IsTaken octets seat w old.left new.left
  pub pending : new.pending ≡ old.pending ++ octets

-- what is left of a sheet whose octets were handed out up to one octet and read up to another
abbrev pub left_from : List ℕ → ℕ → ℕ → List SheetEvent → List ℕ → List Eng → LeftView
left_from text written start events raws counts =
    record { pending = drop written (take start text); left = sheet_from text start events raws counts }

-- what is kept after pieces that were played, and their octets behind a text
pub record HasPlayed (done : Played) (after : Memory) (old new : List ℕ) : Type 0 where
  pub memory : after ≡ done.0
  pub text : new ≡ old ++ done.1
