-- The words of the command. [This profile; options after the POSIX utility conventions, guideline 10.]
use Rattle.std.specs.Prelude.{ℕ, suc, Bool, List, [], ◌∷◌, ◌++◌, codes, take, drop, if◌then◌else◌, Option, Some, None, ◌&&◌, ◌||◌, Result, Ok, Err}
use Rattle.std.specs.List.{list_any, position_or_len}
use Rattle.std.specs.Str.{bytes_eq}
use Rattle.run_model.specs.declared.code.Misuse.{Misuse}
use Rattle.run_model.specs.declared.code.Misuse.TheVariants as misuse
use Rattle.run_model.specs.Words.{is_option, is_standard}
use Rattle.mibtm_audit.specs.declared.inputs.AuditInputs.{AuditInputs}

-- the names of a folder of tables, of a feed, of a desk's script and of a printed text
pub record Named : Type 0 where
  pub folder : List ℕ
  pub feed : List ℕ
  pub desk : List ℕ
  pub text : List ℕ

-- the names of inputs
abbrev pub named : AuditInputs → Named
named inputs = record { folder = inputs.folder.now; feed = inputs.feed.now; desk = inputs.desk.now; text = inputs.text.now }

-- the word that ends the options
abbrev pub ends_options : List ℕ → Bool
ends_options word = bytes_eq word (codes "--")

-- how many words stand before the one that ends the options
abbrev pub before_end : List (List ℕ) → ℕ
before_end words = position_or_len ends_options words

-- words without the one at this place
abbrev pub without : ℕ → List (List ℕ) → List (List ℕ)
without at words = take at words ++ drop (suc at) words

-- the words of a command that takes no options: `--` ends them, and before it a word that looks like one is refused
abbrev pub operands : List (List ℕ) → Option (List (List ℕ))
operands words = if list_any is_option (take (before_end words) words) then None else Some (without (before_end words) words)

-- at most one of three inputs is standard input
abbrev pub is_shared : List ℕ → List ℕ → List ℕ → Bool
is_shared feed desk text = (is_standard feed && (is_standard desk || is_standard text)) || (is_standard desk && is_standard text)

-- the inputs that four words name
abbrev pub four : List (List ℕ) → Option Named
four (folder ∷ feed ∷ desk ∷ text ∷ []) =
    if is_shared feed desk text then None else Some (record { folder = folder; feed = feed; desk = desk; text = text })
four other = None

-- the inputs that words name, if they do
abbrev pub four_of : Option (List (List ℕ)) → Option Named
four_of None = None
four_of (Some words) = four words

-- the inputs that words behind the command name
unfoldable pub inputs_by : List (List ℕ) → Option Named
inputs_by words = four_of (operands words)

-- inputs, or the words are wrong
abbrev pub or_words : Option Named → Result Named Misuse
or_words None = Err misuse.Words
or_words (Some inputs) = Ok inputs

-- the inputs that words name, or what is wrong with them
unfoldable pub inputs_in : List (List ℕ) → Result Named Misuse
inputs_in [] = Err misuse.Command
inputs_in (word ∷ words) = if bytes_eq word (codes "audit") then or_words (inputs_by words) else Err misuse.Command
