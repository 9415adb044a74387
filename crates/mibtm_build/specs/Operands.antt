-- The words of the command. [This profile; options after the POSIX utility conventions, guideline 10.]
use Rattle.std.specs.Prelude.{ℕ, List, [], ◌∷◌, codes, if◌then◌else◌, Option, Some, None, option_map, option_and_then, Result, Ok, Err}
use Rattle.std.specs.Str.{bytes_eq}
use Rattle.run_model.specs.declared.code.Misuse.{Misuse}
use Rattle.run_model.specs.declared.code.Misuse.TheVariants as misuse
use Rattle.run_model.specs.Words.{is_option}
use Rattle.mibtm_build.specs.declared.inputs.BuildInputs.{BuildInputs}

-- the names of a folder of tables and of a file of asks
pub record Named : Type 0 where
  pub folder : List ℕ
  pub asks : List ℕ

-- the names of inputs
abbrev pub named : BuildInputs → Named
named inputs = record { folder = inputs.folder.now; asks = inputs.asks.now }

-- the words of a command that takes no options: `--` ends them, and before it a word that looks like one is refused
unfoldable pub operands : List (List ℕ) → Option (List (List ℕ))
operands [] = Some []
operands (word ∷ words) =
    if bytes_eq word (codes "--") then Some words
    else if is_option word then None
    else option_map (λ more. word ∷ more) (operands words)

-- the inputs that two words name
abbrev pub two : List (List ℕ) → Option Named
two (folder ∷ asks ∷ []) = Some (record { folder = folder; asks = asks })
two other = None

-- the inputs that words behind the command name
abbrev pub inputs_by : List (List ℕ) → Option Named
inputs_by words = option_and_then two (operands words)

-- inputs, or the words are wrong
abbrev pub or_words : Option Named → Result Named Misuse
or_words None = Err misuse.Words
or_words (Some inputs) = Ok inputs

-- the inputs that words name, or what is wrong with them
unfoldable pub inputs_in : List (List ℕ) → Result Named Misuse
inputs_in [] = Err misuse.Command
inputs_in (word ∷ words) = if bytes_eq word (codes "build") then or_words (inputs_by words) else Err misuse.Command
