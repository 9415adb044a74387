-- What a parse by clap says of how words are parted.
use Rattle.std.proofs.Common.{◌≡◌, Bool, true, false, cond, ◌||◌, List, [], ◌∷◌, map, refl, ap, sym, ◌∙◌, Some, codes, inl, inr, subst, ap₂}
use Rattle.std.specs.Prelude.{fold, is_some, String, string_bytes, Err}
use Rattle.std.proofs.lemmas.Str.{IsUtf8-string_bytes}
use Rattle.clap.specs.Kinds.{Kinds, IsAmong, HasKind, or_else}
use Rattle.clap.specs.Faults.{is_simple_and_free, fault_of, walk_fault, settle_fault, defaults_fault, default_fault, given_default_fault, check_fault, entered_fault}
use Rattle.clap.specs.Simple.{App, built, entered, filled, with_index, is_simple, matches_of}
use Rattle.clap.specs.Walk.{Row, Rule, Text, Walk, is_empty, walked, settled, finished, has_row, with_default}
use Rattle.clap.specs.Values.{kind_of}
use Rattle.clap.specs.declared.error.Error.{Error}
use Rattle.clap.specs.declared.error.kind.ErrorKind.{ErrorKind}
use Rattle.clap.specs.declared.error.kind.ErrorKind.TheVariants as kind
use Rattle.clap.proofs.OnLiterals.{clap_on_literals}
use Rattle.run_model.specs.Words.{Parted, parted}
use Rattle.tool_words.specs.Line.{line_app, workers_rule, words_rule, values_of, parted_by, fault_by, IsBad, Parts}
use Rattle.tool_words.specs.declared.request.WordsFault.{WordsFault}
use Rattle.tool_words.proofs.LineFacts.{line-simple, shape, rules, Stand, fresh, walk_at, rows_at, held_at, settled-fault, all-finished}
use Rattle.tool_words.proofs.Fates.{AllText, Fate, Good, fate}
use Rattle.tool_words.proofs.WordFacts.{NonEmpty}

-- the words are text
all-text : {Z : Type 0} (words : List (String Z)) → AllText (map string_bytes words)
all-text [] = tt
all-text (word ∷ words) = (IsUtf8-string_bytes word, all-text words)

pub simple : is_simple line_app ≡ true
unfolding clap_on_literals
simple = refl

both-empty : (a b : Kinds) → or_else a b ≡ [] → (a ≡ []) × (b ≡ [])
both-empty [] b e = (refl, e)
both-empty (k ∷ ks) b e = absurd (cc e)

-- the faults of the whole command, by where its walk ends
abbrev faults_at : List Text → Walk → Kinds
faults_at words w =
    or_else (walk_fault shape [] (walk_at false [] fresh) words)
    (or_else (entered_fault (built line_app) w.stopped) (or_else (settle_fault rules false w.held)
    (or_else (defaults_fault (settled rules w.held).rows rules) (check_fault shape (finished rules w.held) (is_some (entered (built line_app) w.stopped))))))

no-default_fault : (b : Bool) (other : Kinds) → cond (b || true) [] other ≡ []
no-default_fault true other = refl
no-default_fault false other = refl

default-pass : (rows : List Row) (a : Rule) → is_empty a.defaults ≡ true → default_fault rows a ≡ []
default-pass rows a empty = ap (λ b. cond (has_row a.id rows || b) [] (given_default_fault a a.defaults)) empty ∙ no-default_fault (has_row a.id rows) (given_default_fault a a.defaults)

abbrev workers_filled : Rule
workers_filled = with_index 1 (filled workers_rule)

abbrev words_filled : Rule
words_filled = with_index 1 (filled words_rule)

defaults-pass : (rows : List Row) → defaults_fault rows rules ≡ []
unfolding clap_on_literals
defaults-pass rows =
    ap (λ ks. or_else ks (or_else (default_fault (with_default rows workers_filled) words_filled) [])) (default-pass rows workers_filled refl)
    ∙ ap (λ ks. or_else ks []) (default-pass (with_default rows workers_filled) words_filled refl)

-- at its end such a walk has no fault
ends-well : (ended : Bool) (rows : List Row) (s : Stand) → or_else (settle_fault rules false (held_at rows s)) (or_else (defaults_fault (rows_at rows s) rules) (check_fault shape (finished rules (held_at rows s)) false)) ≡ []
ends-well ended rows s =
    ap (λ ks. or_else ks (or_else (defaults_fault (rows_at rows s) rules) [])) (settled-fault rows s) ∙ ap (λ ks. or_else ks []) (defaults-pass (rows_at rows s))

-- words that are taken have no fault
faultless : (words : List Text) (p : Parted) → Good (walk_at false [] fresh) words [] p → fault_of line_app words ≡ []
unfolding clap_on_literals
faultless words p good = ap (faults_at words) good.at ∙ (ap (λ ks. or_else ks (or_else (settle_fault rules false (held_at good.rows good.stand)) (or_else (defaults_fault (rows_at good.rows good.stand) rules) []))) good.passes ∙ ends-well good.ended good.rows good.stand)

-- without a fault the walk and its end have none
parts-empty : (words : List Text) (w : Walk) → faults_at words w ≡ [] → (walk_fault shape [] (walk_at false [] fresh) words ≡ []) × (settle_fault rules false w.held ≡ [])
parts-empty words w none =
    let first = both-empty (walk_fault shape [] (walk_at false [] fresh) words) _ none in
    let second = both-empty (entered_fault (built line_app) w.stopped) _ first.1 in
    let third = both-empty (settle_fault rules false w.held) _ second.1 in
    (first.0, third.0)

not-empty : (a b : Kinds) → a ≡ [] → b ≡ [] → NonEmpty (or_else a b) → ⊥
not-empty a b e f bad = subst NonEmpty (ap₂ or_else e f) bad

-- a parse that fails with no want of memory: the words are bad
pub bad-words : {Z : Type 0} (words : List (String Z)) (e : Error) → HasKind (fault_of line_app (map string_bytes words)) e → (kind_of e ≡ kind.OutOfMemory → ⊥) → IsBad (parted (map string_bytes words))
bad-words words e (inl memory) other = absurd (other memory)
bad-words words e (inr among) other = go (fate (map string_bytes words) (all-text words) [] fresh) where
  go : Fate (walk_at false [] fresh) (map string_bytes words) [] (parted (map string_bytes words)) → IsBad (parted (map string_bytes words))
  go (inl (p, found, good)) = absurd (subst (IsAmong (kind_of e)) (faultless (map string_bytes words) p good) among)
  go (inr (fails, bad)) = bad

same-parts : (p q : List Text) (n m : List Text) → p ≡ q → n ≡ m → ◌≡◌ {A = Parted} (record { positional = p; workers = n }) (record { positional = q; workers = m })
same-parts p q n m e f = cc

-- a parse that succeeds: the words are parted as its rows say
pub good-words : {Z : Type 0} (words : List (String Z)) (rows : List Row) → fault_of line_app (map string_bytes words) ≡ [] → rows ≡ matches_of line_app (map string_bytes words) → parted (map string_bytes words) ≡ Some (parted_by rows)
unfolding clap_on_literals
good-words words rows none is = go (fate (map string_bytes words) (all-text words) [] fresh) where
  go : Fate (walk_at false [] fresh) (map string_bytes words) [] (parted (map string_bytes words)) → parted (map string_bytes words) ≡ Some (parted_by rows)
  go (inl (p, found, good)) =
      let at : rows ≡ rows_at good.rows good.stand = is ∙ (ap (λ (w : Walk). finished rules w.held) good.at ∙ all-finished good.rows good.stand) in
      found ∙ ap Some (sym (same-parts (values_of (codes "words") rows) p.positional (values_of (codes "workers") rows) p.workers (ap (values_of (codes "words")) at ∙ good.positional) (ap (values_of (codes "workers")) at ∙ good.workers)))
  go (inr (fails, bad)) =
      let parts = parts-empty (map string_bytes words) (fold (walked rules []) (walk_at false [] fresh) (map string_bytes words)) none in
      absurd (not-empty (walk_fault shape [] (walk_at false [] fresh) (map string_bytes words)) (settle_fault rules false (fold (walked rules []) (walk_at false [] fresh) (map string_bytes words)).held) parts.0 parts.1 fails)

-- the same of a command that is the words'
pub good-parse : {Z : Type 0} (words : List (String Z)) (app : App) (rows : List Row) → app ≡ line_app → (is_simple_and_free app ≡ true → fault_of app (map string_bytes words) ≡ []) → (is_simple app ≡ true → rows ≡ matches_of app (map string_bytes words)) → parted (map string_bytes words) ≡ Some (parted_by rows)
good-parse words app rows is none same =
    good-words words rows (ap (λ a. fault_of a (map string_bytes words)) (sym is) ∙ none (ap is_simple_and_free is ∙ line-simple)) (same (ap is_simple is ∙ simple) ∙ ap (λ a. matches_of a (map string_bytes words)) is)

bad-kind : (k : ErrorKind) (words : List Text) → ((k ≡ kind.OutOfMemory → ⊥) → IsBad (parted words)) → Parts (Err (fault_by k)) words
bad-kind kind.OutOfMemory words bad = tt
bad-kind other words bad = (refl, bad (λ e. cc e))

pub bad-parse : {Z : Type 0} (words : List (String Z)) (app : App) (e : Error) (why : WordsFault) → app ≡ line_app → (is_simple_and_free app ≡ true → HasKind (fault_of app (map string_bytes words)) e) → why ≡ fault_by (kind_of e) → Parts (Err why) (map string_bytes words)
bad-parse words app e why is has told =
    let kinds = subst (λ a. HasKind (fault_of a (map string_bytes words)) e) is (has (ap is_simple_and_free is ∙ line-simple)) in
    subst (λ w. Parts (Err w) (map string_bytes words)) (sym told) (bad-kind (kind_of e) (map string_bytes words) (bad-words words e kinds))
