-- What is said by what the words ask for. [This profile.]
use Rattle.std.specs.Prelude.{ℕ, List, Result, Ok, ⊤}
use Rattle.run_model.specs.declared.code.Misuse.{Misuse}
use Rattle.run_model.specs.Words.{Command, Check, Decode, Live, Drill}

-- what is said of the folder, where words ask for a check
abbrev pub IfCheck : Result Command Misuse → (List ℕ → Type 0) → Type 0
IfCheck (Ok (Check folder)) says = says folder
IfCheck other says = ⊤

-- what is said of the folder and the feed, where words ask for a decoding
abbrev pub IfDecode : Result Command Misuse → (List ℕ → List ℕ → Type 0) → Type 0
IfDecode (Ok (Decode folder feed workers)) says = says folder feed
IfDecode other says = ⊤

-- what is said of the folder, the feed and the desk, where words ask for a live run
abbrev pub IfLive : Result Command Misuse → (List ℕ → List ℕ → List ℕ → Type 0) → Type 0
IfLive (Ok (Live folder feed desk workers)) says = says folder feed desk
IfLive other says = ⊤

-- what is said where words don't ask for a live run
abbrev pub UnlessLive : Result Command Misuse → Type 0 → Type 0
UnlessLive (Ok (Live folder feed desk workers)) says = ⊤
UnlessLive other says = says

-- what is said of the seed, where words ask for a drill
abbrev pub IfDrill : Result Command Misuse → (ℕ → Type 0) → Type 0
IfDrill (Ok (Drill seed)) says = says seed
IfDrill other says = ⊤
