-- The words of a panel: `panel`, a folder of tables, a feed, and one to four desks. [This profile.]
use Rattle.std.specs.Prelude.{ℕ, List, [], ◌∷◌, length, codes, Bool, ◌||◌, nat_eq, nat_lt, if◌then◌else◌, Option, Some, None, option_and_then, Result}
use Rattle.run_model.specs.Words.{Parted, workers_of}
use Rattle.run_model.specs.declared.code.Misuse.{Misuse}
use Rattle.tool_words.specs.declared.panel_request.PanelRequest.{PanelRequest}
use Rattle.tool_words.specs.declared.panel_request.TheConstants.{MOST_DESKS}
use Rattle.tool_words.specs.declared.request.WordsFault.{WordsFault}
use Rattle.tool_words.specs.Behind.{AsksAs, asked_behind, share_standard}
use Rattle.tool_words.specs.Requests.{texts}

-- what a panel is called with: the names of a folder, a feed and its desks, and how many workers
pub record PanelWords : Type 0 where
  pub folder : List ℕ
  pub feed : List ℕ
  pub desks : List (List ℕ)
  pub workers : ℕ

-- the words that a request is
abbrev pub words_by : PanelRequest → PanelWords
words_by r = record { folder = r.folder.now; feed = r.feed.now; desks = texts r.desks.items; workers = r.workers }

-- a panel has no desk, or more than it can have
abbrev pub is_no_panel : List (List ℕ) → Bool
is_no_panel desks = nat_eq (length desks) 0 || nat_lt MOST_DESKS (length desks)

-- a folder, a feed and one to four desks; of feed and desks one may be standard input
abbrev pub panel_of_words : ℕ → List (List ℕ) → Option PanelWords
panel_of_words workers (folder ∷ feed ∷ desks) =
    if is_no_panel desks || share_standard (feed ∷ desks) then None
    else Some (record { folder = folder; feed = feed; desks = desks; workers = workers })
panel_of_words workers other = None

-- what a panel asks for with its words
abbrev pub panel_asked : Parted → Option PanelWords
panel_asked p = option_and_then (λ n. panel_of_words n p.positional) (workers_of p.workers)

-- what the words of a panel ask for, or what is wrong with them
unfoldable pub panel_in : List (List ℕ) → Result PanelWords Misuse
panel_in words = asked_behind (codes "panel") panel_asked words

-- an answer is what a panel is asked for
abbrev pub AsksPanel : Result PanelRequest WordsFault → Result PanelWords Misuse → Type 0
AsksPanel answer asked = AsksAs words_by answer asked
