-- The editions that a printed text shows. [This profile.]
use Rattle.std.specs.Prelude.{ℕ, suc, Bool, List, [], ◌∷◌, codes, decimal, drop, nat_eq, Option, Some, None, if◌then◌else◌}
use Rattle.std.specs.List.{before_first, find, range_with_len, slice_index_or, starts_with}
use Rattle.std.specs.Str.{bytes_eq}
use Rattle.mib_model.specs.Lines.{is_feed}

-- a line that shows an edition
abbrev pub shows_edition : List ℕ → Bool
shows_edition line = starts_with nat_eq line (codes "EDITION ")

-- a line that begins a packet's record
abbrev pub begins_packet : List ℕ → Bool
begins_packet line = starts_with nat_eq line (codes "PKT ")

-- the edition, of so many, whose decimal number stands behind the word of a line
abbrev pub edition_in : ℕ → List ℕ → Option ℕ
edition_in count line = find (λ edition. bytes_eq (decimal edition) (before_first is_feed (drop 8 line))) (range_with_len 1 count)

-- the first line that shows none of so many editions, though it begins as one that shows an edition; the first has this number
unfoldable pub first_unknown : ℕ → ℕ → List (List ℕ) → Option ℕ
first_unknown count number [] = None
first_unknown count number (line ∷ lines) =
    if shows_edition line
    then elim (edition_in count line) [ None ↦ Some number | Some edition ↦ first_unknown count (suc number) lines ]
    else first_unknown count (suc number) lines

-- the edition that holds behind a line, where this one held before it
abbrev pub edition_behind : ℕ → ℕ → List ℕ → ℕ
edition_behind count edition line =
    if shows_edition line then elim (edition_in count line) [ None ↦ edition | Some shown ↦ shown ] else edition

-- the editions of packets: of each line that begins a record, and the one that holds behind the last line
pub record Editions : Type 0 where
  pub each : List ℕ
  pub last : ℕ

-- one packet's edition more, in front
abbrev pub with_edition : ℕ → Editions → Editions
with_edition edition shown = record shown { each = edition ∷ shown.each }

-- the editions that lines show, of so many, where this one holds before them
unfoldable pub editions_shown : ℕ → ℕ → List (List ℕ) → Editions
editions_shown count edition [] = record { each = []; last = edition }
editions_shown count edition (line ∷ lines) =
    if begins_packet line
    then with_edition edition (editions_shown count edition lines)
    else editions_shown count (edition_behind count edition line) lines

-- the edition of the packet at a place, counted from 0; past the last line that begins a record it is the last
abbrev pub edition_at : Editions → ℕ → ℕ
edition_at shown place = slice_index_or shown.each place shown.last

-- what is left to show behind the first packet
abbrev pub behind_first : Editions → Editions
behind_first shown = record shown { each = drop 1 shown.each }
