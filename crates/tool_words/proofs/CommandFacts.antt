-- What words ask for, by their command.
use Rattle.std.proofs.Common.{◌≡◌, ℕ, ◌<◌, ◌≤◌, Bool, true, false, cond, List, [], ◌∷◌, map, length, get_or, take, drop, ◌-◌, refl, ap, sym, ◌∙◌, Option, Some, None, codes, arith, Err}
use Rattle.std.specs.Prelude.{option_map, option_and_then, unwrap_or, String, string_bytes, Result}
use Rattle.std.specs.Borrow.{Bor}
use Rattle.std.specs.Str.{bytes_eq}
use Rattle.std.proofs.lemmas.List.{take_all}
use Rattle.run_model.specs.declared.code.Misuse.{Misuse}
use Rattle.run_model.specs.declared.code.Misuse.TheVariants as misuse
use Rattle.run_model.specs.Words.{Command, parted, command_of, or_words, with_options, without_options, check_of_words, decode_of_words, live_of_words, drill_of_words}
use Rattle.tool_words.specs.declared.request.Verb.{Verb}
use Rattle.tool_words.specs.declared.request.Verb.TheVariants as verb
use Rattle.tool_words.specs.Requests.{texts, verb_of, asked}

-- what words behind a command ask for, where there is one
abbrev pub behind : Option Verb → List (List ℕ) → Result Command Misuse
behind None words = Err misuse.Command
behind (Some v) words = or_words (option_and_then (asked v) (parted words))

by-tests : (check decode live drill : Bool) (words : List (List ℕ)) →
    cond check (or_words (without_options check_of_words words)) (cond decode (or_words (with_options decode_of_words words)) (cond live (or_words (with_options live_of_words words)) (cond drill (or_words (without_options drill_of_words words)) (Err misuse.Command))))
    ≡ behind (cond check (Some verb.Check) (cond decode (Some verb.Decode) (cond live (Some verb.Live) (cond drill (Some verb.Drill) None)))) words
by-tests true decode live drill words = refl
by-tests false true live drill words = refl
by-tests false false true drill words = refl
by-tests false false false true words = refl
by-tests false false false false words = refl

-- a word and the words behind it
command-behind : (word : List ℕ) (words : List (List ℕ)) → command_of (word ∷ words) ≡ behind (verb_of word) words
unfolding command_of
command-behind word words = by-tests (bytes_eq word (codes "check")) (bytes_eq word (codes "decode")) (bytes_eq word (codes "live")) (bytes_eq word (codes "drill")) words

-- no word asks for nothing
pub no-command : {Z : Type 0} (words : List (String Z)) → length words < 1 → command_of (map string_bytes words) ≡ Err misuse.Command
unfolding command_of
no-command [] none = refl
no-command (word ∷ words) none = absurd (omega arith)

-- the first word, and those behind it
first-words : {Z : Type 0} (words : List (String Z)) (word : String Z) → 1 ≤ length words → word ≡ get_or words 0 word → map string_bytes words ≡ string_bytes word ∷ map string_bytes (take (length words - 1) (drop 1 words))
first-words [] word some is = absurd (omega arith)
first-words (x ∷ xs) word some is = ap (λ w. string_bytes w ∷ map string_bytes xs) (sym is) ∙ ap (λ ws. string_bytes word ∷ map string_bytes ws) (sym (take_all (length (x ∷ xs) - 1) xs (omega arith)))

-- words ask for what their first word asks for with those behind it
pub command-of_words : {Z : Type 0} (words : List (String Z)) (word : String Z) (text : List ℕ) (v : Option Verb) → 1 ≤ length words → word ≡ get_or words 0 word → text ≡ string_bytes word → v ≡ verb_of text → command_of (map string_bytes words) ≡ behind v (map string_bytes (take (length words - 1) (drop 1 words)))
command-of_words words word text v some is told found =
    let rest = map string_bytes (take (length words - 1) (drop 1 words)) in
    ap command_of (first-words words word some is) ∙ (command-behind (string_bytes word) rest ∙ ap (λ w. behind w rest) (ap verb_of (sym told) ∙ sym found))

-- values, or else none
pub values-by : (found : Option (Bor (List (Bor (List ℕ))))) (none : Bor (List (Bor (List ℕ)))) (all : Option (List (List ℕ))) → option_map (λ (s : Bor (List (Bor (List ℕ)))). texts s.now) found ≡ all → none.now ≡ [] → texts (unwrap_or found none).now ≡ unwrap_or all []
values-by None none all is empty = ap texts empty ∙ ap (λ (a : Option (List (List ℕ))). unwrap_or a []) is
values-by (Some s) none all is empty = ap (λ (a : Option (List (List ℕ))). unwrap_or a []) is
