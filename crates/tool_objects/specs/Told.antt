-- What is said of objects where they tell their content. [This profile.]
use Rattle.std.specs.Prelude.{◌≡◌, ℕ, List, Option, Some, Result, Err, IfSome, IsOkAnd, IsSomeAnd}
use Rattle.tm_io.specs.Causes.{HasRisen}
use Rattle.mib_model.specs.declared.database.Database.{Database}
use Rattle.mib_model.specs.declared.fault.MibFault.{MibFault}
use Rattle.session.specs.Sources.{Files}
use Rattle.tool_objects.specs.Objects.{ShelfView, HasFailed}

-- the tables, read so, are a database of which this is said
abbrev pub ByTables : {T : Type 0} → ShelfView T → (Files → Result Database MibFault) → (Database → Type 0) → Type 0
ByTables t read says = IfSome (t.holds t.before) (λ files. IsOkAnd (read files) says)

-- the tables, read so, are refused for this fault
abbrev pub IsRefused : {T : Type 0} → ShelfView T → (Files → Result Database MibFault) → MibFault → Type 0
IsRefused t read fault = IfSome (t.holds t.before) (λ files. read files ≡ Err fault)

-- this is said of the file of that name, if there is one
abbrev pub OfFile : {S : Type 0} → ShelfView S → List ℕ → (Option (List ℕ) → Type 0) → Type 0
OfFile s name says = IfSome (s.holds s.before) (λ files. says (files name))

-- no turn to a file failed
abbrev pub HasTurned : {S : Type 0} → ShelfView S → Type 0
HasTurned s = s.missed s.now ≡ s.missed s.before

-- where the shelf tells, the file of that name is held, and this is what it had left as a run opened
abbrev pub StoodAt : {S : Type 0} → ShelfView S → List ℕ → Option (List ℕ) → Type 0
StoodAt s name start = OfFile s name (λ found. IsSomeAnd found (λ octets. start ≡ Some octets))

-- a turn to a file failed
abbrev pub HasMissed : {S : Type 0} → ShelfView S → Type 0
HasMissed s = HasFailed s × HasRisen (s.missed s.before) (s.missed s.now)
