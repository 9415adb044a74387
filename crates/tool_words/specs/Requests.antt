-- The command that a request is.
use Rattle.std.specs.Prelude.{◌≡◌, ℕ, List, map, codes, Option, Some, None, option_and_then, if◌then◌else◌, Result, Ok, Err, ⊤}
use Rattle.std.specs.Borrow.{Bor}
use Rattle.std.specs.Str.{bytes_eq}
use Rattle.run_model.specs.Words.{Command, Check, Decode, Live, Drill, Parted, if_none, workers_of, check_of_words, decode_of_words, live_of_words, drill_of_words}
use Rattle.run_model.specs.declared.code.Misuse.{Misuse}
use Rattle.tool_words.specs.declared.request.ToolRequest.{ToolRequest}
use Rattle.tool_words.specs.declared.request.ToolRequest.TheVariants as request
use Rattle.tool_words.specs.declared.request.Verb.{Verb}
use Rattle.tool_words.specs.declared.request.Verb.TheVariants as verb
use Rattle.tool_words.specs.declared.request.WordsFault.{WordsFault}
use Rattle.tool_words.specs.declared.request.WordsFault.TheVariants as fault

-- the command that a request is
abbrev pub command_by : ToolRequest → Command
command_by (request.Check folder) = Check folder.now
command_by (request.Decode folder feed workers) = Decode folder.now feed.now workers
command_by (request.Live folder feed desk workers) = Live folder.now feed.now desk.now workers
command_by (request.Drill seed) = Drill seed

-- the texts behind references
abbrev pub texts : List (Bor (List ℕ)) → List (List ℕ)
texts words = map (λ (word : Bor (List ℕ)). word.now) words

-- the command that a word is
abbrev pub verb_of : List ℕ → Option Verb
verb_of word =
    if bytes_eq word (codes "check") then Some verb.Check
    else if bytes_eq word (codes "decode") then Some verb.Decode
    else if bytes_eq word (codes "live") then Some verb.Live
    else if bytes_eq word (codes "drill") then Some verb.Drill
    else None

-- what a command asks for with its words
abbrev pub asked : Verb → Parted → Option Command
asked verb.Check p = if_none p.workers (check_of_words p.positional)
asked verb.Decode p = option_and_then (λ n. decode_of_words n p.positional) (workers_of p.workers)
asked verb.Live p = option_and_then (λ n. live_of_words n p.positional) (workers_of p.workers)
asked verb.Drill p = if_none p.workers (drill_of_words p.positional)

-- an answer is the command that is asked for, or what is wrong with the words; nothing is said where memory runs out
abbrev pub Asks : Result ToolRequest WordsFault → Result Command Misuse → Type 0
Asks (Ok request) asked = asked ≡ Ok (command_by request)
Asks (Err (fault.Misuse misuse)) asked = asked ≡ Err misuse
Asks (Err fault.Memory) asked = ⊤
