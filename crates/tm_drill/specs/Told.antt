-- The text that a counter was told: whole lines, and the front of the next one. [This profile: LF ends a line.]
use Rattle.std.specs.Prelude.{◌≡◌, ℕ, ◌≤◌, List, [], ◌∷◌, ◌++◌, length, map, false}
use Rattle.std.specs.List.{All, flat_map}
use Rattle.std.specs.declared.snapshot.Snapshot.{Snapshot}
use Rattle.mib_model.specs.Lines.{is_feed}
use Rattle.tm_drill.specs.declared.counts.Counts.{Counts}
use Rattle.tm_drill.specs.Counts.{counts_in}

-- a line with its LF
abbrev pub ended : List ℕ → List ℕ
ended line = line ++ 10 ∷ []

-- the text of lines and the front of a next one
abbrev pub text_of : List (List ℕ) → List ℕ → List ℕ
text_of lines front = flat_map ended lines ++ front

-- no LF is among octets
abbrev pub IsOneLine : List ℕ → Type 0
IsOneLine octets = All (λ octet. is_feed octet ≡ false) octets

-- the lines that snapshots show
abbrev pub shown : List (Snapshot (List ℕ)) → List (List ℕ)
shown snapshots = map (λ (s : Snapshot (List ℕ)). s.value) snapshots

-- what a counter was told, what of it was handed on, and how often it failed
pub record Told : Type 0 where
  pub text : List ℕ
  pub handed : List ℕ
  pub faults : ℕ

-- what a counter keeps: the counts of whole lines, the front of the next one, and how many lines were handed on
pub record IsKept (counts : Counts) (lines : List (List ℕ)) (front : List ℕ) (handed : ℕ) : Type 0 where
  pub counted : counts ≡ counts_in lines
  pub each : All IsOneLine lines
  pub next : IsOneLine front
  pub within : handed ≤ length lines
