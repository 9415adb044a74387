-- How clap walks over the words behind a command.
use Rattle.std.proofs.Common.{◌≡◌, Bool, true, false, cond, List, [], ◌∷◌, ◌++◌, refl, ap, ◌∙◌, Option, Some, None, codes}
use Rattle.std.specs.Prelude.{nat_eq}
use Rattle.std.specs.List.{starts_with}
use Rattle.std.specs.Option.{option_map_or}
use Rattle.std.specs.Str.{bytes_eq}
use Rattle.clap.specs.Kinds.{or_else}
use Rattle.clap.specs.Simple.{Shape, built, filled, with_index}
use Rattle.clap.specs.Faults.{is_simple_and_free, turn_fault, word_fault, other_fault, flag_word_fault, bundle_fault, step_fault, settle_fault}
use Rattle.clap.specs.Lexer.{long_of, short_of}
use Rattle.clap.specs.Walk.{Rule, Row, Text, Walk, Waiting, idle, positional, Held, Step, value, walked, word_met, after_step, settled_rows, finished, plain_word, option, trailing, subcommand_or_other, with_default, has_row, short_or_plain, long_or_other}
use Rattle.clap.proofs.OnLiterals.{clap_on_literals}
use Rattle.run_model.specs.Words.{workers_prefix, workers_option, is_option}
use Rattle.tool_words.specs.Line.{line_app, workers_rule}
use Rattle.tool_words.proofs.RowFacts.{no-default}

abbrev pub shape : Shape
shape = (built line_app).top

abbrev pub rules : List Rule
rules = shape.rules

pub line-simple : is_simple_and_free line_app ≡ true
unfolding clap_on_literals
line-simple = refl

-- where the walk stands before a word that it may take: at the start or behind a number that was attached, behind a positional
-- word, or behind the number of an option
pub data Stand : Type 0 where
  fresh : Stand
  behind_word : (word : Text) → Stand
  behind_number : (number : Text) → Stand

abbrev pub pending_at : Stand → Option (Text × List Text)
pending_at fresh = None
pending_at (behind_word word) = Some (codes "words", word ∷ [])
pending_at (behind_number number) = Some (codes "workers", number ∷ [])

abbrev pub waiting_at : Stand → Waiting
waiting_at fresh = idle
waiting_at (behind_word word) = positional
waiting_at (behind_number number) = idle

abbrev pub held_at : List Row → Stand → Held
held_at rows s = record { rows = rows; pending = pending_at s; skip = 0 }

abbrev pub walk_at : Bool → List Row → Stand → Walk
walk_at ended rows s = record { held = held_at rows s; waiting = waiting_at s; position = 1; is_trailing = ended; stopped = None }

-- the rows with what is pending
abbrev pub rows_at : List Row → Stand → List Row
rows_at rows s = settled_rows rules (pending_at s) rows

-- the walk goes on behind a positional word
pub trailing-walked : (rows : List Row) (s : Stand) (word : Text) → walked rules [] (walk_at true rows s) word ≡ walk_at true (rows_at rows s) (behind_word word)
unfolding clap_on_literals
trailing-walked rows fresh word = refl
trailing-walked rows (behind_word w) word = refl
trailing-walked rows (behind_number n) word = refl

pub trailing-fault : (rows : List Row) (s : Stand) (word : Text) → turn_fault shape [] (walk_at true rows s) word ≡ []
unfolding clap_on_literals
trailing-fault rows fresh word = refl
trailing-fault rows (behind_word w) word = refl
trailing-fault rows (behind_number n) word = refl

pub settled-fault : (rows : List Row) (s : Stand) → settle_fault rules false (held_at rows s) ≡ []
unfolding clap_on_literals
settled-fault rows fresh = refl
settled-fault rows (behind_word w) = refl
settled-fault rows (behind_number n) = refl

-- what stands at the end
pub all-finished : (rows : List Row) (s : Stand) → finished rules (held_at rows s) ≡ rows_at rows s
all-finished rows s = no-default (has_row (codes "words") (with_default (rows_at rows s) (with_index 1 (filled workers_rule)))) _ ∙ no-default (has_row (codes "workers") (rows_at rows s)) (rows_at rows s)

-- ---- a word that is no option and no end of them

pub plain-by : (waiting : Waiting) (h : Held) (word : Text) → bytes_eq word (codes "--") ≡ false → long_of word ≡ None → short_of word ≡ None
    → subcommand_or_other rules None waiting 1 word h ≡ plain_word rules waiting word h
plain-by waiting h word dashes long short =
    ap (λ b. cond b (h, trailing 1) (long_or_other rules waiting word (long_of word) h)) dashes ∙ (ap (λ l. long_or_other rules waiting word l h) long ∙ ap (λ f. short_or_plain rules waiting word f h) short)

pub plain-fault_by : (h : Held) (word : Text) → bytes_eq word (codes "--") ≡ false → long_of word ≡ None → short_of word ≡ None → other_fault shape None word h ≡ []
plain-fault_by h word dashes long short =
    ap (λ b. cond b [] (flag_word_fault rules false (long_of word) word h)) dashes ∙ (ap (λ l. flag_word_fault rules false l word h) long ∙ ap (λ f. option_map_or (λ flags. bundle_fault rules false flags h) f []) short)

-- clap takes the word for no option
pub record Plain (word : Text) : Type 0 where
  pub dashes : bytes_eq word (codes "--") ≡ false
  pub long : long_of word ≡ None
  pub short : short_of word ≡ None
  pub attached : starts_with nat_eq word workers_prefix ≡ false
  pub detached : bytes_eq word workers_option ≡ false
  pub option : is_option word ≡ false

plain-met : (rows : List Row) (s : Stand) (word : Text) → Plain word → word_met rules [] false (waiting_at s) 1 word (held_at rows s) ≡ (held_at rows s, value)
plain-met rows fresh word p = plain-by idle (held_at rows fresh) word p.dashes p.long p.short
plain-met rows (behind_word w) word p = plain-by positional (held_at rows (behind_word w)) word p.dashes p.long p.short
plain-met rows (behind_number n) word p = plain-by idle (held_at rows (behind_number n)) word p.dashes p.long p.short

after-value : (rows : List Row) (s : Stand) (word : Text) → after_step rules word (walk_at false rows s) (held_at rows s) value ≡ walk_at false (rows_at rows s) (behind_word word)
after-value rows fresh word = refl
after-value rows (behind_word w) word = refl
after-value rows (behind_number n) word = refl

pub plain-walked : (rows : List Row) (s : Stand) (word : Text) → Plain word → walked rules [] (walk_at false rows s) word ≡ walk_at false (rows_at rows s) (behind_word word)
unfolding clap_on_literals
plain-walked rows s word p = ap (λ (m : Held × Step). after_step rules word (walk_at false rows s) m.0 m.1) (plain-met rows s word p) ∙ after-value rows s word

step-value : (rows : List Row) (s : Stand) → step_fault shape 1 (held_at rows s) value ≡ []
step-value rows fresh = refl
step-value rows (behind_word w) = refl
step-value rows (behind_number n) = refl

plain-word_fault : (rows : List Row) (s : Stand) (word : Text) → Plain word → word_fault shape [] false (waiting_at s) word (held_at rows s) ≡ []
plain-word_fault rows fresh word p = plain-fault_by (held_at rows fresh) word p.dashes p.long p.short
plain-word_fault rows (behind_word w) word p = plain-fault_by (held_at rows (behind_word w)) word p.dashes p.long p.short
plain-word_fault rows (behind_number n) word p = plain-fault_by (held_at rows (behind_number n)) word p.dashes p.long p.short

pub plain-fault : (rows : List Row) (s : Stand) (word : Text) → Plain word → turn_fault shape [] (walk_at false rows s) word ≡ []
plain-fault rows s word p =
    ap (λ ks. or_else ks (step_fault shape 1 (word_met rules [] false (waiting_at s) 1 word (held_at rows s)).0 (word_met rules [] false (waiting_at s) 1 word (held_at rows s)).1)) (plain-word_fault rows s word p)
    ∙ (ap (λ (m : Held × Step). step_fault shape 1 m.0 m.1) (plain-met rows s word p) ∙ step-value rows s)

-- ---- the end of options, and options

pub dashes-walked : (rows : List Row) (s : Stand) → walked rules [] (walk_at false rows s) (codes "--") ≡ walk_at true rows s
unfolding clap_on_literals
dashes-walked rows fresh = refl
dashes-walked rows (behind_word w) = refl
dashes-walked rows (behind_number n) = refl

pub dashes-fault : (rows : List Row) (s : Stand) → turn_fault shape [] (walk_at false rows s) (codes "--") ≡ []
unfolding clap_on_literals
dashes-fault rows fresh = refl
dashes-fault rows (behind_word w) = refl
dashes-fault rows (behind_number n) = refl

-- the rows with a number more
abbrev pub with_number : Text → List Row → List Row
with_number number rows = settled_rows rules (Some (codes "workers", number ∷ [])) rows

pub attached-walked : (rows : List Row) (s : Stand) (v : Text) → walked rules [] (walk_at false rows s) (codes "--workers=" ++ v) ≡ walk_at false (with_number v (rows_at rows s)) fresh
unfolding clap_on_literals
attached-walked rows fresh v = refl
attached-walked rows (behind_word w) v = refl
attached-walked rows (behind_number n) v = refl

pub attached-fault : (rows : List Row) (s : Stand) (v : Text) → turn_fault shape [] (walk_at false rows s) (codes "--workers=" ++ v) ≡ []
unfolding clap_on_literals
attached-fault rows fresh v = refl
attached-fault rows (behind_word w) v = refl
attached-fault rows (behind_number n) v = refl

-- where `--workers` waits for its number
abbrev pub await : Bool → List Row → Walk
await ended rows = record {
  held = record { rows = rows; pending = Some (codes "workers", []); skip = 0 };
  waiting = option (codes "workers");
  position = 1;
  is_trailing = ended;
  stopped = None;
}

pub detached-walked : (rows : List Row) (s : Stand) → walked rules [] (walk_at false rows s) (codes "--workers") ≡ await false (rows_at rows s)
unfolding clap_on_literals
detached-walked rows fresh = refl
detached-walked rows (behind_word w) = refl
detached-walked rows (behind_number n) = refl

pub detached-fault : (rows : List Row) (s : Stand) → turn_fault shape [] (walk_at false rows s) (codes "--workers") ≡ []
unfolding clap_on_literals
detached-fault rows fresh = refl
detached-fault rows (behind_word w) = refl
detached-fault rows (behind_number n) = refl

pub number-walked : (rows : List Row) (word : Text) → Plain word → walked rules [] (await false rows) word ≡ walk_at false rows (behind_number word)
unfolding clap_on_literals
number-walked rows word p = ap (λ (m : Held × Step). after_step rules word (await false rows) m.0 m.1) (plain-by (option (codes "workers")) (await false rows).held word p.dashes p.long p.short)

pub number-fault : (rows : List Row) (word : Text) → Plain word → turn_fault shape [] (await false rows) word ≡ []
number-fault rows word p =
    let met = subcommand_or_other rules None (option (codes "workers")) 1 word (await false rows).held in
    ap (λ ks. or_else ks (step_fault shape 1 met.0 met.1)) (plain-fault_by (await false rows).held word p.dashes p.long p.short)
    ∙ ap (λ (m : Held × Step). step_fault shape 1 m.0 m.1) (plain-by (option (codes "workers")) (await false rows).held word p.dashes p.long p.short)
