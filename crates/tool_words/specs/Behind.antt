-- What the words of a program ask for that has one command of its own. [This profile.]
use Rattle.std.specs.Prelude.{◌≡◌, ℕ, List, [], ◌∷◌, Bool, nat_lt, count_by, if◌then◌else◌, Option, Some, None, option_and_then, Result, Ok, Err, ⊤}
use Rattle.std.specs.Str.{bytes_eq}
use Rattle.run_model.specs.Words.{Parted, is_standard, parted}
use Rattle.run_model.specs.declared.code.Misuse.{Misuse}
use Rattle.run_model.specs.declared.code.Misuse.TheVariants as misuse
use Rattle.tool_words.specs.declared.request.WordsFault.{WordsFault}
use Rattle.tool_words.specs.declared.request.WordsFault.TheVariants as fault

-- more than one of the names is standard input
abbrev pub share_standard : List (List ℕ) → Bool
share_standard names = nat_lt 1 (count_by is_standard names)

-- what is asked for, or the words are wrong
abbrev pub or_wrong : {A : Type 0} → Option A → Result A Misuse
or_wrong None = Err misuse.Words
or_wrong (Some asked) = Ok asked

-- the words behind a command, which is the first word
abbrev pub words_behind : List ℕ → List (List ℕ) → Option (List (List ℕ))
words_behind command [] = None
words_behind command (word ∷ words) = if bytes_eq word command then Some words else None

-- what is asked for by the words behind a command, where they are there: the command before all else
abbrev pub asked_by : {A : Type 0} → (Parted → Option A) → Option (List (List ℕ)) → Result A Misuse
asked_by asks None = Err misuse.Command
asked_by asks (Some words) = or_wrong (option_and_then asks (parted words))

-- what words ask for of which the first is to be this command
abbrev pub asked_behind : {A : Type 0} → List ℕ → (Parted → Option A) → List (List ℕ) → Result A Misuse
asked_behind command asks words = asked_by asks (words_behind command words)

-- an answer is what is asked for, or what is wrong with the words; nothing is said where memory runs out
abbrev pub AsksAs : {R A : Type 0} → (R → A) → Result R WordsFault → Result A Misuse → Type 0
AsksAs words_by (Ok request) asked = asked ≡ Ok (words_by request)
AsksAs words_by (Err (fault.Misuse misuse)) asked = asked ≡ Err misuse
AsksAs words_by (Err fault.Memory) asked = ⊤
