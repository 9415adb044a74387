-- What lines show, line by line.
use Rattle.std.proofs.Common.{◌≡◌, ℕ, suc, ◌+◌, Bool, true, false, ◌&&◌, cond, List, [], ◌∷◌, Option, Some, None, is_none, refl, ap, ◌∙◌, arith}
use Rattle.tm_audit.specs.Shown.{Editions, begins_packet, behind_first, edition_at, edition_behind, edition_in, editions_shown, first_unknown, shows_edition, with_edition}

-- a line that begins a record
pub shown-packet : (count edition : ℕ) (line : List ℕ) (lines : List (List ℕ)) → begins_packet line ≡ true
    → editions_shown count edition (line ∷ lines) ≡ with_edition edition (editions_shown count edition lines)
unfolding editions_shown
shown-packet count edition line lines is =
    ap (λ (b : Bool). cond b (with_edition edition (editions_shown count edition lines)) (editions_shown count (edition_behind count edition line) lines)) is

-- another line
pub shown-other : (count edition : ℕ) (line : List ℕ) (lines : List (List ℕ)) → begins_packet line ≡ false
    → editions_shown count edition (line ∷ lines) ≡ editions_shown count (edition_behind count edition line) lines
unfolding editions_shown
shown-other count edition line lines is =
    ap (λ (b : Bool). cond b (with_edition edition (editions_shown count edition lines)) (editions_shown count (edition_behind count edition line) lines)) is

-- what stands behind the first packet
pub behind-packet : (edition : ℕ) (shown : Editions) → behind_first (with_edition edition shown) ≡ shown
behind-packet edition shown = refl

pub at-packet : (edition : ℕ) (shown : Editions) → edition_at (with_edition edition shown) 0 ≡ edition
at-packet edition shown = refl

-- behind the last line
pub shown-none : (count edition : ℕ) → editions_shown count edition [] ≡ record { each = []; last = edition }
unfolding editions_shown
shown-none count edition = refl

-- a line that shows no edition where it should
pub unknown-here : (count number : ℕ) (line : List ℕ) (lines : List (List ℕ)) → (shows_edition line && is_none (edition_in count line)) ≡ true
    → first_unknown count number (line ∷ lines) ≡ Some number
unfolding first_unknown
unknown-here count number line lines unknown = by (shows_edition line) (edition_in count line) unknown where
  by : (shows : Bool) (found : Option ℕ) → (shows && is_none found) ≡ true
      → cond shows (elim found [ None ↦ Some number | Some edition ↦ first_unknown count (suc number) lines ]) (first_unknown count (suc number) lines) ≡ Some number
  by false found unknown = absurd (cc unknown)
  by true (Some edition) unknown = absurd (cc unknown)
  by true None unknown = refl

-- another line
pub unknown-later : (count number : ℕ) (line : List ℕ) (lines : List (List ℕ)) → (shows_edition line && is_none (edition_in count line)) ≡ false
    → first_unknown count number (line ∷ lines) ≡ first_unknown count (number + 1) lines
unfolding first_unknown
unknown-later count number line lines other = by (shows_edition line) (edition_in count line) other ∙ ap (λ (n : ℕ). first_unknown count n lines) (omega arith) where
  by : (shows : Bool) (found : Option ℕ) → (shows && is_none found) ≡ false
      → cond shows (elim found [ None ↦ Some number | Some edition ↦ first_unknown count (suc number) lines ]) (first_unknown count (suc number) lines) ≡ first_unknown count (suc number) lines
  by false found other = refl
  by true (Some edition) other = refl
  by true None other = absurd (cc other)

pub unknown-none : (count number : ℕ) → first_unknown count number [] ≡ None
unfolding first_unknown
unknown-none count number = refl
