-- Objects that didn't fail, and whose counts could tell. [This profile.]
use Rattle.std.specs.Prelude.{◌≡◌, ◌+◌, ◌<◌, ◌^◌, ℕ, Some}
use Rattle.session.specs.Sources.{Files}
use Rattle.tool_objects.specs.Objects.{ShelfView, SinkView}

-- a count of faults that didn't rise, and could still
pub record IsCalm (before now : ℕ) : Type 0 where
  pub same : now ≡ before
  pub more : before + 1 < 2 ^ 64

-- the shelf holds these files and didn't fail, and its count could tell
pub record HoldsCalm {S : Type 0} (s : ShelfView S) (files : Files) : Type 0 where
  pub holds : s.holds s.before ≡ Some files
  pub calm : IsCalm (s.faults s.before) (s.faults s.now)

-- the sink didn't fail, and its count could tell
abbrev pub IsCalmSink : {O : Type 0} → SinkView O → Type 0
IsCalmSink o = IsCalm (o.faults o.before) (o.faults o.now)
