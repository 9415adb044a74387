-- The editions that a text shows are those that there are.
use Rattle.std.proofs.Common.{◌≡◌, ◌∙◌, ℕ, zero, suc, ◌+◌, ◌<◌, ◌≤◌, Bool, true, false, cond, List, [], ◌∷◌, get_or, Option, Some, None, refl, ap, arith, decimal}
use Rattle.std.specs.List.{find, range_with_len}
use Rattle.std.specs.Str.{bytes_eq}
use Rattle.std.proofs.lemmas.List.{get_or-drop, drop-drop}
use Rattle.tm_audit.specs.Shown.{Editions, begins_packet, behind_first, edition_at, edition_behind, edition_in, editions_shown, shows_edition, with_edition}
use Rattle.mibtm_audit.specs.Courses.{behind}

-- an edition is one of so many
abbrev pub IsOf : ℕ → ℕ → Type 0
IsOf count edition = (1 ≤ edition) × (edition ≤ count)

-- what a search through numbers finds is one of them
found-within : (test : ℕ → Bool) (low count edition : ℕ) → find test (range_with_len low count) ≡ Some edition → (low ≤ edition) × (edition < low + count)
found-within test low zero edition is = absurd (cc is)
found-within test low (suc count) edition is = go (test low) is (found-within test (low + 1) count edition) where
  go : (b : Bool) → cond b (Some low) (find test (range_with_len (low + 1) count)) ≡ Some edition
      → (find test (range_with_len (low + 1) count) ≡ Some edition → (low + 1 ≤ edition) × (edition < low + 1 + count)) → (low ≤ edition) × (edition < low + suc count)
  go true same again = let e : low ≡ edition = cc same in (omega (arith, e), omega (arith, e))
  go false same again = let more = again same in (omega (arith, more.0), omega (arith, more.1))

-- the edition behind a line
behind-known : (count edition : ℕ) (line : List ℕ) → IsOf count edition → IsOf count (edition_behind count edition line)
behind-known count edition line known = go (shows_edition line) (edition_in count line) refl where
  go : (shows : Bool) (found : Option ℕ) → edition_in count line ≡ found → IsOf count (cond shows (elim found [ None ↦ edition | Some shown ↦ shown ]) edition)
  go false found is = known
  go true None is = known
  go true (Some shown) is = let more = found-within (λ e. bytes_eq (decimal e) _) 1 count shown is in (more.0, omega (arith, more.1))

pub shown-known : (count edition : ℕ) (lines : List (List ℕ)) (place : ℕ) → IsOf count edition → IsOf count (edition_at (editions_shown count edition lines) place)
unfolding editions_shown
shown-known count edition [] place known = known
shown-known count edition (line ∷ lines) place known =
    go (begins_packet line) place (λ at. shown-known count edition lines at known) (λ at. shown-known count (edition_behind count edition line) lines at (behind-known count edition line known)) where
      go : (begins : Bool) (at : ℕ) → ((n : ℕ) → IsOf count (edition_at (editions_shown count edition lines) n))
          → ((n : ℕ) → IsOf count (edition_at (editions_shown count (edition_behind count edition line) lines) n))
          → IsOf count (edition_at (cond begins (with_edition edition (editions_shown count edition lines)) (editions_shown count (edition_behind count edition line) lines)) at)
      go true zero here behind = known
      go true (suc at) here behind = here at
      go false at here behind = behind at

-- the next of those that are left
pub next-left : (place : ℕ) (shown : Editions) → edition_at (behind place shown) 0 ≡ edition_at shown place
next-left place shown = get_or-drop place shown.each 0 shown.last ∙ (let at : place + 0 ≡ place = omega arith in ap (λ n. get_or shown.each n shown.last) at)

pub left-next : (place : ℕ) (shown : Editions) → behind_first (behind place shown) ≡ behind (place + 1) shown
left-next place shown = ap (λ (each : List ℕ). record { each = each; last = shown.last }) (drop-drop 1 place shown.each)
