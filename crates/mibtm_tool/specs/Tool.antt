-- What a call leaves that nothing hinders. [This profile.]
use Rattle.std.specs.Prelude.{◌≡◌, ℕ, ◌⊎◌, List, [], ◌++◌, Option, Some, ◌<◌, length}
use Rattle.std.specs.List.{All, concat}
use Rattle.std.specs.Io.KnownBytes.{Appends}
use Rattle.run_model.specs.declared.code.Code.{Code}
use Rattle.run_model.specs.declared.code.Code.TheVariants as code
use Rattle.mib_model.specs.declared.database.Database.{Database}
use Rattle.mib_model.specs.Packets.{IsPacket, IsCut}
use Rattle.mib_model.specs.Summaries.{summary}
use Rattle.mib_model.specs.Texts.{cut_text}
use Rattle.session.specs.Sources.{Files}
use Rattle.mibtm_tool.specs.Drill.{drill_summary}
use Rattle.tool_objects.specs.Calm.{IsCalm}
use Rattle.tool_objects.specs.Objects.{ShelfView, SinkView, Took}
use Rattle.decode_session.specs.Run.{Writes, most_packets}

-- the feed is cut into packets, fewer than the most, and nothing else; they were printed
abbrev pub PrintsWhole : Database → List ℕ → Option (List ℕ) → Option (List ℕ) → Type 0
PrintsWhole db octets old new =
    (packets : List (List ℕ)) × IsCut octets packets [] × (length packets < most_packets) × Writes db packets [] old new

-- the feed is cut into packets, fewer than the most, and a rest of so many octets; they were printed
abbrev pub PrintsCut : ℕ → Database → List ℕ → Option (List ℕ) → Option (List ℕ) → Type 0
PrintsCut count db octets old new =
    (packets : List (List ℕ)) × (rest : List ℕ)
    × IsCut octets packets rest × (length rest ≡ count) × (0 < count)
    × (length packets < most_packets) × Writes db packets (cut_text count) old new

-- the feed begins with the most packets, which were printed
abbrev pub PrintsMost : Database → List ℕ → Option (List ℕ) → Option (List ℕ) → Type 0
PrintsMost db octets old new =
    (packets : List (List ℕ)) × (more : List ℕ)
    × (octets ≡ concat packets ++ more) × All IsPacket packets × (length packets ≡ most_packets) × Writes db packets [] old new

-- a feed was decoded whole, or memory ran out
abbrev pub Completes : {O : Type 0} → Code → Database → List ℕ → SinkView O → Type 0
Completes c db octets out =
    ((c ≡ code.Ok) × Took out (PrintsWhole db octets))
    ⊎ (((count : ℕ) × (c ≡ code.Cut count) × Took out (PrintsCut count db octets))
    ⊎ (((c ≡ code.Limit) × Took out (PrintsMost db octets)) ⊎ (c ≡ code.Want)))

-- the summary was written whole, or memory ran out
abbrev pub CompletesCheck : {O : Type 0} → Code → Database → SinkView O → Type 0
CompletesCheck c db out = ((c ≡ code.Ok) × Took out (λ old new. Appends old new (summary db))) ⊎ (c ≡ code.Want)

-- the summary of a generated run was written whole, or memory ran out
abbrev pub CompletesDrill : {O : Type 0} → Code → ℕ → SinkView O → Type 0
CompletesDrill c seed out = ((c ≡ code.Ok) × Took out (λ old new. Appends old new (drill_summary seed))) ⊎ (c ≡ code.Want)

-- the shelf didn't fail, and its count could tell
abbrev pub IsSteady : {S : Type 0} → ShelfView S → Type 0
IsSteady s = IsCalm (s.faults s.before) (s.faults s.now)

-- the shelf held these files
abbrev pub Held : {S : Type 0} → ShelfView S → Files → Type 0
Held s files = s.holds s.before ≡ Some files
