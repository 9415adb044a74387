-- What the objects of a call show before it and behind it.
use Rattle.std.specs.Prelude.{◌≡◌, ℕ, List, [], Option}
use Rattle.std.specs.Io.KnownBytes.{Appends}
use Rattle.tm_io.specs.Causes.{HasRisen}
use Rattle.session.specs.Sources.{Files}

-- a shelf: the files that it holds, what is left of the open one, how often it failed, and how often it failed to turn to a file
pub record ShelfView (S : Type 0) : Type 0 where
  pub before : S
  pub now : S
  pub holds : S → Option Files
  pub left : S → Option (List ℕ)
  pub faults : S → ℕ
  pub missed : S → ℕ

-- a sink: what it was given, what of it was handed on, and how often it failed
pub record SinkView (S : Type 0) : Type 0 where
  pub before : S
  pub now : S
  pub written : S → Option (List ℕ)
  pub handed : S → Option (List ℕ)
  pub faults : S → ℕ

-- a shelf before and now
abbrev pub shelf : {S : Type 0} → S → S → (S → Option Files) → (S → Option (List ℕ)) → (S → ℕ) → (S → ℕ) → ShelfView S
shelf before now holds left faults missed = record { before = before; now = now; holds = holds; left = left; faults = faults; missed = missed }

-- a sink before and now
abbrev pub sink : {S : Type 0} → S → S → (S → Option (List ℕ)) → (S → Option (List ℕ)) → (S → ℕ) → SinkView S
sink before now written handed faults = record { before = before; now = now; written = written; handed = handed; faults = faults }

-- the shelf didn't fail
abbrev pub HasStood : {S : Type 0} → ShelfView S → Type 0
HasStood s = s.faults s.now ≡ s.faults s.before

-- the shelf failed
abbrev pub HasFailed : {S : Type 0} → ShelfView S → Type 0
HasFailed s = HasRisen (s.faults s.before) (s.faults s.now)

-- the shelf is as it was
abbrev pub IsUncalled : {S : Type 0} → ShelfView S → Type 0
IsUncalled s = s.now ≡ s.before

-- the sink is as it was
abbrev pub IsUnwritten : {O : Type 0} → SinkView O → Type 0
IsUnwritten o = o.now ≡ o.before

-- the sink failed
abbrev pub HasBroken : {O : Type 0} → SinkView O → Type 0
HasBroken o = HasRisen (o.faults o.before) (o.faults o.now)

-- this is said of the octets that the sink was given before and now
abbrev pub Took : {O : Type 0} → SinkView O → (Option (List ℕ) → Option (List ℕ) → Type 0) → Type 0
Took o says = says (o.written o.before) (o.written o.now)

-- the sink was given nothing
abbrev pub TookNothing : {O : Type 0} → SinkView O → Type 0
TookNothing o = Took o (λ old new. Appends old new [])

-- the sink didn't fail, and where all was handed on before, all that was written is handed on
pub record IsHandedOn {O : Type 0} (o : SinkView O) : Type 0 where
  pub stood : o.faults o.now ≡ o.faults o.before
  pub handed : o.handed o.before ≡ o.written o.before → o.handed o.now ≡ o.written o.now
