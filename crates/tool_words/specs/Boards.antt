-- The words of a board: `board`, a folder of tables, a feed, a desk and a file of names. [This profile.]
use Rattle.std.specs.Prelude.{ℕ, List, [], ◌∷◌, codes, if◌then◌else◌, Option, Some, None, option_and_then, Result}
use Rattle.run_model.specs.Words.{Parted, workers_of}
use Rattle.run_model.specs.declared.code.Misuse.{Misuse}
use Rattle.tool_words.specs.declared.board.BoardRequest.{BoardRequest}
use Rattle.tool_words.specs.declared.request.WordsFault.{WordsFault}
use Rattle.tool_words.specs.Behind.{AsksAs, asked_behind, share_standard}

-- what a board is called with: the names of a folder, a feed, a desk and a file of names, and how many workers
pub record BoardWords : Type 0 where
  pub folder : List ℕ
  pub feed : List ℕ
  pub desk : List ℕ
  pub page : List ℕ
  pub workers : ℕ

-- the words that a request is
abbrev pub words_by : BoardRequest → BoardWords
words_by r = record { folder = r.folder.now; feed = r.feed.now; desk = r.desk.now; page = r.page.now; workers = r.workers }

-- a folder, a feed, a desk and a file of names, of which one may be standard input
abbrev pub board_of_words : ℕ → List (List ℕ) → Option BoardWords
board_of_words workers (folder ∷ feed ∷ desk ∷ page ∷ []) =
    if share_standard (feed ∷ desk ∷ page ∷ []) then None
    else Some (record { folder = folder; feed = feed; desk = desk; page = page; workers = workers })
board_of_words workers other = None

-- what a board asks for with its words
abbrev pub board_asked : Parted → Option BoardWords
board_asked p = option_and_then (λ n. board_of_words n p.positional) (workers_of p.workers)

-- what the words of a board ask for, or what is wrong with them
unfoldable pub board_in : List (List ℕ) → Result BoardWords Misuse
board_in words = asked_behind (codes "board") board_asked words

-- an answer is what a board is asked for
abbrev pub AsksBoard : Result BoardRequest WordsFault → Result BoardWords Misuse → Type 0
AsksBoard answer asked = AsksAs words_by answer asked
