-- The words behind a command as `clap` reads them: positional words, and `--workers` with a number.
use Rattle.std.specs.Prelude.{◌≡◌, ℕ, true, List, [], codes, Option, Some, None, unwrap_or, is_some, not, Result, Ok, Err, ⊤}
use Rattle.std.specs.List.{list_any}
use Rattle.clap.specs.Words.{App, Row, Rule, new_app, new_rule, with_rule}
use Rattle.clap.specs.Simple.{on_top}
use Rattle.clap.specs.Walk.{all_of}
use Rattle.clap.specs.declared.builder.action.ArgAction.TheVariants.{Append}
use Rattle.clap.specs.Words.{found_of}
use Rattle.clap.specs.Walk.{rows_of}
use Rattle.clap.specs.declared.parser.matches.ArgMatches.{ArgMatches}
use Rattle.clap.specs.declared.error.kind.ErrorKind.{ErrorKind}
use Rattle.clap.specs.declared.error.kind.ErrorKind.TheVariants as kind
use Rattle.run_model.specs.declared.code.Misuse.TheVariants as misuse
use Rattle.tool_words.specs.declared.request.WordsFault.{WordsFault}
use Rattle.tool_words.specs.declared.request.WordsFault.TheVariants as fault
use Rattle.run_model.specs.Words.{Parted, parted, workers_in}

-- the option `--workers`
abbrev pub workers_rule : Rule
workers_rule = record (new_rule (codes "workers")) { long = Some (codes "workers"); action = Some Append }

-- the positional words
abbrev pub words_rule : Rule
words_rule = record (new_rule (codes "words")) { action = Some Append }

-- the words behind a command: no help, and no name of a program before them
abbrev pub line_app : App
line_app = with_rule (with_rule (on_top (λ s. record s { no_binary_name = true; disable_help_flag = true }) (new_app (codes "words"))) workers_rule) words_rule

-- the values of an id, none where it isn't there
abbrev pub values_of : List ℕ → List Row → List (List ℕ)
values_of id rows = unwrap_or (all_of id rows) []

-- what rows say: the positional words and the numbers of workers
abbrev pub parted_by : List Row → Parted
parted_by rows = record { positional = values_of (codes "words") rows; workers = values_of (codes "workers") rows }

-- words that can't be parted, or with a number of workers that is none
abbrev pub IsBad : Option Parted → Type 0
IsBad None = ⊤
IsBad (Some p) = list_any (λ number. not (is_some (workers_in number))) p.workers ≡ true

-- what an error of clap says of the words: they are wrong, unless memory ran out
abbrev pub fault_by : ErrorKind → WordsFault
fault_by kind.OutOfMemory = fault.Memory
fault_by other = fault.Misuse misuse.Words

-- words are parted as the matches say, or are bad; nothing is said where memory runs out
abbrev pub Parts : Result ArgMatches WordsFault → List (List ℕ) → Type 0
Parts (Ok matches) words = parted words ≡ Some (parted_by (rows_of (found_of matches)))
Parts (Err (fault.Misuse why)) words = (why ≡ misuse.Words) × IsBad (parted words)
Parts (Err fault.Memory) words = ⊤
