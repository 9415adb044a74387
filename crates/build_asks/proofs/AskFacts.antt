-- What a line asks for, by its words.
use Rattle.std.proofs.Common.{◌≡◌, ◌∙◌, ◌<◌, ◌≤◌, ℕ, Bool, true, false, cond, List, [], ◌++◌, length, Option, Some, None, option_map, refl, sym, ap}
use Rattle.std.specs.Str.Lines.{strip_carriage_return}
use Rattle.std.proofs.lemmas.Bool.{le-ltb, lt-ltb}
use Rattle.run_model.specs.DeskLines.{words_of}
use Rattle.build_rules.specs.declared.item.Item.{Item}
use Rattle.build_rules.specs.Asks.{Asked, asked_in, asked_of}
use Rattle.build_asks.specs.declared.ask.Ask.{Ask}
use Rattle.build_asks.specs.Asking.{ask_with}

pub too-long : (line : List ℕ) → 4096 < length line → asked_in line ≡ None
unfolding asked_in
too-long line long = rw (lt-ltb 4096 (length line) long) refl

pub by-words : (line : List ℕ) → length line ≤ 4096 → (o : Option Asked) → asked_of (words_of (strip_carriage_return line)) ≡ o → asked_in line ≡ o
unfolding asked_in
by-words line short o is = rw (le-ltb 4096 (length line) short) is

-- items that were added to none
pub all-items : (ask : Ask) (o : Option (List Item)) (before items : List Item) (are : Bool) → before ≡ [] → option_map (λ more. before ++ more) o ≡ cond are (Some items) None
    → ask_with (Some ask) o ≡ ask_with (cond are (Some ask) None) (Some items)
all-items ask None before items true none is = absurd (cc is)
all-items ask None before items false none is = refl
all-items ask (Some those) before items false none is = absurd (cc is)
all-items ask (Some those) before items true none is =
    let same : before ++ those ≡ items = cc is in
    ap (λ (l : List Item). Some (record { spid = ask.spid; count = ask.count; items = l })) (sym (ap (λ b. b ++ those) none) ∙ same)
