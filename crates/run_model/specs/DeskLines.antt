-- The forms of a desk line. [This profile.]
use Rattle.std.specs.Prelude.{ℕ, ◌^◌, Bool, true, List, [], ◌∷◌, codes, length, drop, nat_eq, nat_lt, nat_le, ◌==◌, ◌&&◌, not, if◌then◌else◌, Option, Some, None, option_map, option_and_then}
use Rattle.std.specs.List.{slice_split, starts_with, before_first, after_first, list_any}
use Rattle.std.specs.Str.{bytes_eq}
use Rattle.std.specs.Str.Lines.{strip_carriage_return}
use Rattle.mib_model.specs.declared.kind.Kind.{Kind}
use Rattle.mib_model.specs.Digits.{natural_in}
use Rattle.mib_model.specs.Kinds.{kind_named}
use Rattle.mib_model.specs.Letters.{letter}
use Rattle.mib_model.specs.Lines.{is_tab}

-- what a line asks for
pub data Request : Type 0 where
  Comment : Request
  TooLong : Request
  BadLine : Request
  BadTable : Request
  Put : (table : Kind) (row : List ℕ) → Request
  Delete : (table : Kind) (key : List ℕ) → Request
  Save : Request
  Drop : Request
  Use : (edition : ℕ) → Request
  UseFrom : (edition from : ℕ) → Request
  Take : Request
  Go : Request

-- a line that is empty or begins with `#`
abbrev pub is_comment : List ℕ → Bool
is_comment [] = true
is_comment (c ∷ cs) = c == letter "#"

-- the most octets of a line
abbrev pub most_octets : ℕ
most_octets = 4096

-- a space
abbrev pub is_blank : ℕ → Bool
is_blank octet = octet == 32

-- an edition: a number above 4,294,967,295 is no edition, which 0 stands for
abbrev pub edition_in : List ℕ → Option ℕ
edition_in word = option_map (λ n. if nat_lt n (2 ^ 32) then n else 0) (natural_in word)

-- a word: at least one octet, and no space
abbrev pub is_word : List ℕ → Bool
is_word word = nat_le 1 (length word) && not (list_any is_blank word)

-- a request, or that the line has no form
abbrev pub or_bad_line : Option Request → Request
or_bad_line None = BadLine
or_bad_line (Some request) = request

-- an order on a table and what stands behind the TAB
abbrev pub on_table : (Kind → List ℕ → Request) → List ℕ → Option Kind → Request
on_table make text None = BadTable
on_table make text (Some table) = make table text

-- the rest of a line behind `put ` or `del `: the table's word, a TAB, and the row or the key
abbrev pub table_request : (Kind → List ℕ → Request) → List ℕ → Request
table_request make rest =
    if list_any is_tab rest && is_word (before_first is_tab rest)
    then on_table make (after_first is_tab rest) (kind_named (before_first is_tab rest))
    else BadLine

-- the words of a line, parted by one space each
abbrev pub words_of : List ℕ → List (List ℕ)
words_of line = slice_split is_blank line

-- what the words behind `use` ask for
abbrev pub use_request : List (List ℕ) → Option Request
use_request (edition ∷ []) = option_map Use (edition_in edition)
use_request (edition ∷ word ∷ number ∷ []) =
    if bytes_eq word (codes "from") then option_and_then (λ e. option_map (UseFrom e) (natural_in number)) (edition_in edition) else None
use_request other = None

-- what a line of words alone asks for; `take` is one where several desks work
abbrev pub word_request : Bool → List (List ℕ) → Option Request
word_request several [] = None
word_request several (word ∷ []) =
    if bytes_eq word (codes "save") then Some Save
    else if bytes_eq word (codes "drop") then Some Drop
    else if bytes_eq word (codes "go") then Some Go
    else if several && bytes_eq word (codes "take") then Some Take
    else None
word_request several (word ∷ next ∷ words) = if bytes_eq word (codes "use") then use_request (next ∷ words) else None

-- what a line that is no comment and not too long asks for, without the CR at its end
abbrev pub request_in : Bool → List ℕ → Request
request_in several line =
    if starts_with nat_eq line (codes "put ") then table_request Put (drop 4 line)
    else if starts_with nat_eq line (codes "del ") then table_request Delete (drop 4 line)
    else or_bad_line (word_request several (words_of line))

-- what a line of the script asks for: a comment may have any length
unfoldable pub request_of : Bool → List ℕ → Request
request_of several line =
    if is_comment (strip_carriage_return line) then Comment
    else if nat_lt most_octets (length line) then TooLong
    else request_in several (strip_carriage_return line)
