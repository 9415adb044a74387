-- The words of the command line, after the program's name. [This profile; options after the POSIX utility conventions, guideline 10.]
use Rattle.std.specs.Prelude.{ℕ, Bool, List, [], ◌∷◌, codes, drop, nat_le, nat_eq, ◌&&◌, not, if◌then◌else◌, Option, Some, None, option_map, option_and_then, Result, Ok, Err}
use Rattle.std.specs.List.{starts_with}
use Rattle.std.specs.Str.{bytes_eq}
use Rattle.run_model.specs.declared.code.Misuse.{Misuse}
use Rattle.run_model.specs.declared.code.Misuse.TheVariants as misuse
use Rattle.mib_model.specs.Digits.{digits_value, are_digits, natural_in}

-- what the words ask for: tables in a folder, a feed, a desk, and the number of workers
pub data Command : Type 0 where
  Check : (folder : List ℕ) → Command
  Decode : (folder feed : List ℕ) (workers : ℕ) → Command
  Live : (folder feed desk : List ℕ) (workers : ℕ) → Command
  Drill : (seed : ℕ) → Command

-- the word that names standard input
abbrev pub is_standard : List ℕ → Bool
is_standard word = bytes_eq word (codes "-")

-- a word that begins with `-`, other than `-` itself, is an option
abbrev pub is_option : List ℕ → Bool
is_option word = starts_with nat_eq word (codes "-") && not (is_standard word)

-- the positional words, and the numbers that `--workers` gives
pub record Parted : Type 0 where
  pub positional : List (List ℕ)
  pub workers : List (List ℕ)

-- a positional word more
abbrev pub with_positional : List ℕ → Parted → Parted
with_positional word p = record p { positional = word ∷ p.positional }

-- a number of workers more
abbrev pub with_workers : List ℕ → Parted → Parted
with_workers number p = record p { workers = number ∷ p.workers }

-- the option with its number in the next word
abbrev pub workers_option : List ℕ
workers_option = codes "--workers"

-- the option with its number behind it
abbrev pub workers_prefix : List ℕ
workers_prefix = codes "--workers="

-- words parted: `--` ends the options, `--workers` takes the next word, and any other option is refused
unfoldable pub parted : List (List ℕ) → Option Parted
parted [] = Some (record { positional = []; workers = [] })
parted (word ∷ []) =
    if bytes_eq word (codes "--") then Some (record { positional = []; workers = [] })
    else if starts_with nat_eq word workers_prefix then Some (record { positional = []; workers = drop 10 word ∷ [] })
    else if is_option word then None
    else Some (record { positional = word ∷ []; workers = [] })
parted (word ∷ next ∷ rest) =
    if bytes_eq word (codes "--") then Some (record { positional = next ∷ rest; workers = [] })
    else if bytes_eq word workers_option then option_map (with_workers next) (parted rest)
    else if starts_with nat_eq word workers_prefix then option_map (with_workers (drop 10 word)) (parted (next ∷ rest))
    else if is_option word then None
    else option_map (with_positional word) (parted (next ∷ rest))

-- a number of workers: one or two digits with a value of 1 to 16
abbrev pub workers_in : List ℕ → Option ℕ
workers_in word =
    if are_digits 1 2 word && nat_le 1 (digits_value word) && nat_le (digits_value word) 16 then Some (digits_value word) else None

-- the number of workers by what `--workers` gives: 1 where it isn't there, and it is there once at most
abbrev pub workers_of : List (List ℕ) → Option ℕ
workers_of [] = Some 1
workers_of (word ∷ []) = workers_in word
workers_of (word ∷ next ∷ rest) = None

-- `check`: a folder
abbrev pub check_of_words : List (List ℕ) → Option Command
check_of_words (folder ∷ []) = Some (Check folder)
check_of_words other = None

-- `decode`: a folder and a feed
abbrev pub decode_of_words : ℕ → List (List ℕ) → Option Command
decode_of_words workers (folder ∷ feed ∷ []) = Some (Decode folder feed workers)
decode_of_words workers other = None

-- `live`: a folder, a feed and a desk, of which one may be standard input
abbrev pub live_of_words : ℕ → List (List ℕ) → Option Command
live_of_words workers (folder ∷ feed ∷ desk ∷ []) =
    if is_standard feed && is_standard desk then None else Some (Live folder feed desk workers)
live_of_words workers other = None

-- `drill`: a seed of 1 to 20 digits with a value below 2^64
abbrev pub drill_of_words : List (List ℕ) → Option Command
drill_of_words (seed ∷ []) = option_map Drill (natural_in seed)
drill_of_words other = None

-- the words of a command that takes workers
abbrev pub with_options : (ℕ → List (List ℕ) → Option Command) → List (List ℕ) → Option Command
with_options make words = option_and_then (λ p. option_and_then (λ n. make n p.positional) (workers_of p.workers)) (parted words)

-- a command, where nothing stands that it doesn't take
abbrev pub if_none : {A : Type 0} → List A → Option Command → Option Command
if_none [] command = command
if_none (x ∷ xs) command = None

-- the words of a command that takes no options
abbrev pub without_options : (List (List ℕ) → Option Command) → List (List ℕ) → Option Command
without_options make words = option_and_then (λ p. if_none p.workers (make p.positional)) (parted words)

-- a command, or the words are wrong
abbrev pub or_words : Option Command → Result Command Misuse
or_words None = Err misuse.Words
or_words (Some command) = Ok command

-- what words ask for, or what is wrong: the command before all else
unfoldable pub command_of : List (List ℕ) → Result Command Misuse
command_of [] = Err misuse.Command
command_of (word ∷ words) =
    if bytes_eq word (codes "check") then or_words (without_options check_of_words words)
    else if bytes_eq word (codes "decode") then or_words (with_options decode_of_words words)
    else if bytes_eq word (codes "live") then or_words (with_options live_of_words words)
    else if bytes_eq word (codes "drill") then or_words (without_options drill_of_words words)
    else Err misuse.Command
