-- What clap makes of all words behind a command, beside how the definitions part them.
use Rattle.std.proofs.Common.{◌≡◌, ℕ, ◌⊎◌, Bool, true, false, ◌||◌, not, List, [], ◌∷◌, ◌++◌, refl, ap, sym, ◌∙◌, Option, Some, None, codes, inl, inr, subst, append_assoc}
use Rattle.std.specs.Prelude.{option_map, fold, is_some, ⊤}
use Rattle.std.specs.List.{list_any}
use Rattle.std.specs.Str.{IsUtf8}
use Rattle.std.proofs.lemmas.List.{append-nil}
use Rattle.clap.specs.Kinds.{Kinds, or_else}
use Rattle.clap.specs.Faults.{turn_fault, walk_fault, settle_fault, other_fault}
use Rattle.clap.specs.Walk.{Row, Text, Walk, walked}
use Rattle.clap.proofs.OnLiterals.{clap_on_literals}
use Rattle.run_model.specs.Words.{Parted, parted, workers_in}
use Rattle.tool_words.specs.Line.{values_of, IsBad}
use Rattle.tool_words.proofs.RowFacts.{values-more, values-other}
use Rattle.tool_words.proofs.LineFacts.{shape, rules, Stand, fresh, behind_word, behind_number, walk_at, rows_at, await, with_number, trailing-walked, trailing-fault, plain-walked, plain-fault, dashes-walked, dashes-fault, attached-walked, attached-fault, detached-walked, detached-fault, number-walked, number-fault, Plain}
use Rattle.tool_words.proofs.WordFacts.{NonEmpty, Refused, Class, is_dashes, is_attached, is_detached, is_refused, is_plain, class_of, minus-no_number}

-- each word is text
abbrev pub AllText : List Text → Type 0
AllText [] = ⊤
AllText (word ∷ words) = IsUtf8 word × AllText words

-- what a parse of further words fails by
abbrev pub rest_fault : Walk → List Text → Kinds
rest_fault w words = or_else (walk_fault shape [] w words) (settle_fault rules false (fold (walked rules []) w words).held)

-- words and numbers in front
abbrev joined : List Text → List Text → Parted → Parted
joined words numbers p = record { positional = words ++ p.positional; workers = numbers ++ p.workers }

-- where a walk ends that takes all words, and what its rows have then: those before with the words' parts
pub record Good (w : Walk) (words : List Text) (before : List Row) (p : Parted) : Type 0 where
  pub passes : walk_fault shape [] w words ≡ []
  pub ended : Bool
  pub rows : List Row
  pub stand : Stand
  pub at : fold (walked rules []) w words ≡ walk_at ended rows stand
  pub positional : values_of (codes "words") (rows_at rows stand) ≡ values_of (codes "words") before ++ p.positional
  pub workers : values_of (codes "workers") (rows_at rows stand) ≡ values_of (codes "workers") before ++ p.workers

-- a parse takes the words, and has their parts, or it fails, and they are bad
abbrev pub Fate : Walk → List Text → List Row → Option Parted → Type 0
Fate w words before after = ((p : Parted) × (after ≡ Some p) × Good w words before p) ⊎ (NonEmpty (rest_fault w words) × IsBad after)

or-true : (b : Bool) → b || true ≡ true
or-true true = refl
or-true false = refl

fails-first : (a b : Kinds) → NonEmpty a → NonEmpty (or_else a b)
fails-first [] b bad = absurd bad
fails-first (k ∷ ks) b bad = tt

turn-fails : (w : Walk) (word : Text) (rest : List Text) → NonEmpty (turn_fault shape [] w word) → NonEmpty (rest_fault w (word ∷ rest))
unfolding clap_on_literals
turn-fails w word rest bad = fails-first (or_else (turn_fault shape [] w word) (walk_fault shape [] (walked rules [] w word) rest)) _ (fails-first (turn_fault shape [] w word) _ bad)

-- a turn that passes leaves the faults of the rest
turn-passes : (w now : Walk) (word : Text) (rest : List Text) → turn_fault shape [] w word ≡ [] → walked rules [] w word ≡ now → walk_fault shape [] w (word ∷ rest) ≡ walk_fault shape [] now rest
unfolding clap_on_literals
turn-passes w now word rest passes at = ap (λ ks. or_else ks (walk_fault shape [] (walked rules [] w word) rest)) passes ∙ ap (λ v. walk_fault shape [] v rest) at

turn-folds : (w now : Walk) (word : Text) (rest : List Text) → walked rules [] w word ≡ now → fold (walked rules []) w (word ∷ rest) ≡ fold (walked rules []) now rest
turn-folds w now word rest at = ap (λ v. fold (walked rules []) v rest) at

turn-rest : (w now : Walk) (word : Text) (rest : List Text) → turn_fault shape [] w word ≡ [] → walked rules [] w word ≡ now → rest_fault w (word ∷ rest) ≡ rest_fault now rest
turn-rest w now word rest passes at =
    ap (λ ks. or_else ks (settle_fault rules false (fold (walked rules []) w (word ∷ rest)).held)) (turn-passes w now word rest passes at)
    ∙ ap (λ (v : Walk). or_else (walk_fault shape [] now rest) (settle_fault rules false v.held)) (turn-folds w now word rest at)

bad-more : (words numbers : List Text) (after : Option Parted) → IsBad after → IsBad (option_map (joined words numbers) after)
bad-more words numbers None bad = bad
bad-more words numbers (Some p) bad = go numbers where
  go : (ns : List Text) → list_any (λ number. not (is_some (workers_in number))) (ns ++ p.workers) ≡ true
  go [] = bad
  go (n ∷ ns) = ap (λ b. not (is_some (workers_in n)) || b) (go ns) ∙ or-true (not (is_some (workers_in n)))

-- a word is taken, and the rows have it
go-on : (w now : Walk) (word : Text) (rest : List Text) (before rows : List Row) (words numbers : List Text) (after all : Option Parted) → turn_fault shape [] w word ≡ [] → walked rules [] w word ≡ now
    → values_of (codes "words") rows ≡ values_of (codes "words") before ++ words → values_of (codes "workers") rows ≡ values_of (codes "workers") before ++ numbers
    → all ≡ option_map (joined words numbers) after → Fate now rest rows after → Fate w (word ∷ rest) before all
go-on w now word rest before rows words numbers after all passes at more many is (inl (p, found, good)) = inl (
  joined words numbers p,
  is ∙ ap (option_map (joined words numbers)) found,
  record {
    passes = turn-passes w now word rest passes at ∙ good.passes;
    ended = good.ended;
    rows = good.rows;
    stand = good.stand;
    at = turn-folds w now word rest at ∙ good.at;
    positional = good.positional ∙ (ap (λ vs. vs ++ p.positional) more ∙ append_assoc (values_of (codes "words") before) words p.positional);
    workers = good.workers ∙ (ap (λ vs. vs ++ p.workers) many ∙ append_assoc (values_of (codes "workers") before) numbers p.workers);
  },
)
go-on w now word rest before rows words numbers after all passes at more many is (inr (fails, bad)) =
    inr (subst NonEmpty (sym (turn-rest w now word rest passes at)) fails, subst IsBad (sym is) (bad-more words numbers after bad))

-- a word is refused
refuse : (w : Walk) (word : Text) (rest : List Text) (before : List Row) (after : Option Parted) → NonEmpty (turn_fault shape [] w word) → IsBad after → Fate w (word ∷ rest) before after
refuse w word rest before after fails bad = inr (turn-fails w word rest fails, bad)

-- ---- how the definitions part a word of each class

parted-plain : (word : Text) (rest : List Text) → Plain word → parted (word ∷ rest) ≡ option_map (joined (word ∷ []) []) (parted rest)
unfolding parted
parted-plain word [] p = let d = p.dashes in let a = p.attached in let o = p.option in rw (d, a, o) refl
parted-plain word (next ∷ rest) p = let d = p.dashes in let t = p.detached in let a = p.attached in let o = p.option in rw (d, t, a, o) refl

parted-refused : (word : Text) (rest : List Text) → Refused word → parted (word ∷ rest) ≡ None
unfolding parted
parted-refused word [] r = let d = r.dashes in let a = r.attached in let o = r.option in rw (d, a, o) refl
parted-refused word (next ∷ rest) r = let d = r.dashes in let t = r.detached in let a = r.attached in let o = r.option in rw (d, t, a, o) refl

parted-dashes : (rest : List Text) → parted (codes "--" ∷ rest) ≡ Some (record { positional = rest; workers = [] })
unfolding parted
parted-dashes [] = refl
parted-dashes (next ∷ rest) = refl

parted-attached : (number : Text) (rest : List Text) → parted ((codes "--workers=" ++ number) ∷ rest) ≡ option_map (joined [] (number ∷ [])) (parted rest)
unfolding parted
parted-attached number [] = refl
parted-attached number (next ∷ rest) = refl

parted-detached : (next : Text) (rest : List Text) → parted (codes "--workers" ∷ next ∷ rest) ≡ option_map (joined [] (next ∷ [])) (parted rest)
unfolding parted
parted-detached next rest = refl

parted-last : parted (codes "--workers" ∷ []) ≡ None
unfolding parted
parted-last = refl

parted-nothing : parted [] ≡ Some (record { positional = []; workers = [] })
unfolding parted
parted-nothing = refl

joined-nothing : (after : Option Parted) → after ≡ option_map (joined [] []) after
joined-nothing None = refl
joined-nothing (Some p) = refl

-- ---- what the rows have then

more-words : (word : Text) (rows : List Row) → values_of (codes "words") (rows_at rows (behind_word word)) ≡ values_of (codes "words") rows ++ word ∷ []
more-words word rows = values-more (codes "words") _ word rows refl

more-words_many : (word : Text) (rows : List Row) → values_of (codes "workers") (rows_at rows (behind_word word)) ≡ values_of (codes "workers") rows ++ []
more-words_many word rows = values-other (codes "words") (codes "workers") _ word rows refl ∙ sym (append-nil (values_of (codes "workers") rows))

more-numbers : (number : Text) (rows : List Row) → values_of (codes "workers") (with_number number rows) ≡ values_of (codes "workers") rows ++ number ∷ []
more-numbers number rows = values-more (codes "workers") _ number rows refl

more-numbers_words : (number : Text) (rows : List Row) → values_of (codes "words") (with_number number rows) ≡ values_of (codes "words") rows ++ []
more-numbers_words number rows = values-other (codes "workers") (codes "words") _ number rows refl ∙ sym (append-nil (values_of (codes "words") rows))

no-more : (id : Text) (rows : List Row) → values_of id rows ≡ values_of id rows ++ []
no-more id rows = sym (append-nil (values_of id rows))

-- ---- all words

nothing-left : (ended : Bool) (rows : List Row) (s : Stand) → Good (walk_at ended rows s) [] (rows_at rows s) (record { positional = []; workers = [] })
unfolding clap_on_literals
nothing-left ended rows s = record { passes = refl; ended = ended; rows = rows; stand = s; at = refl; positional = no-more (codes "words") (rows_at rows s); workers = no-more (codes "workers") (rows_at rows s) }

-- behind the end of options all words are positional
trail : (words : List Text) (rows : List Row) (s : Stand) → Fate (walk_at true rows s) words (rows_at rows s) (Some (record { positional = words; workers = [] }))
trail [] rows s = inl (record { positional = []; workers = [] }, refl, nothing-left true rows s)
trail (word ∷ rest) rows s =
    go-on (walk_at true rows s) (walk_at true (rows_at rows s) (behind_word word)) word rest (rows_at rows s) (rows_at (rows_at rows s) (behind_word word)) (word ∷ []) [] (Some (record { positional = rest; workers = [] })) (Some (record { positional = word ∷ rest; workers = [] }))
    (trailing-fault rows s word) (trailing-walked rows s word) (more-words word (rows_at rows s)) (more-words_many word (rows_at rows s)) refl (trail rest (rows_at rows s) (behind_word word))

-- clap takes words behind each stand, or fails there
abbrev Taken : List Text → Type 0
Taken words = (rows : List Row) (s : Stand) → Fate (walk_at false rows s) words (rows_at rows s) (parted words)

abbrev TakenBehind : List Text → Type 0
TakenBehind [] = ⊤
TakenBehind (word ∷ words) = Taken words

await-fault : (ended : Bool) (rows : List Row) (word : Text) → NonEmpty (turn_fault shape [] (await true rows) word)
unfolding clap_on_literals
await-fault ended rows word = tt

-- a number that begins with `-`, where an option waits for one
bad-number : (next : Text) (rest : List Text) → workers_in next ≡ None → IsBad (parted (codes "--workers" ∷ next ∷ rest))
bad-number next rest none = subst IsBad (sym (parted-detached next rest)) (go (parted rest)) where
  go : (after : Option Parted) → IsBad (option_map (joined [] (next ∷ [])) after)
  go None = tt
  go (Some p) = ap (λ (n : Option ℕ). not (is_some n) || list_any (λ number. not (is_some (workers_in number))) p.workers) none

await-dashes : (rows : List Row) (rest : List Text) → NonEmpty (rest_fault (await false rows) (codes "--" ∷ rest))
unfolding clap_on_literals
await-dashes rows [] = tt
await-dashes rows (word ∷ rest) = tt

await-attached : (rows : List Row) (number : Text) → NonEmpty (turn_fault shape [] (await false rows) (codes "--workers=" ++ number))
unfolding clap_on_literals
await-attached rows number = tt

await-detached : (rows : List Row) → NonEmpty (turn_fault shape [] (await false rows) (codes "--workers"))
unfolding clap_on_literals
await-detached rows = tt

await-refused : (rows : List Row) (word : Text) → Refused word → NonEmpty (turn_fault shape [] (await false rows) word)
await-refused rows word r = fails-first (other_fault shape None word (await false rows).held) _ (r.fault rows (Some (codes "workers", [])))

await-end : (rows : List Row) → NonEmpty (rest_fault (await false rows) [])
unfolding clap_on_literals
await-end rows = tt

walk-refused : (rows : List Row) (s : Stand) (word : Text) → Refused word → NonEmpty (turn_fault shape [] (walk_at false rows s) word)
walk-refused rows fresh word r = fails-first (other_fault shape None word (walk_at false rows fresh).held) _ (r.fault rows None)
walk-refused rows (behind_word w) word r = fails-first (other_fault shape None word (walk_at false rows (behind_word w)).held) _ (r.fault rows (Some (codes "words", w ∷ [])))
walk-refused rows (behind_number n) word r = fails-first (other_fault shape None word (walk_at false rows (behind_number n)).held) _ (r.fault rows (Some (codes "workers", n ∷ [])))

-- the word behind `--workers`
number-fate : (next : Text) (rest : List Text) → Class next → Taken rest → (rows : List Row) → Fate (await false rows) (next ∷ rest) rows (parted (codes "--workers" ∷ next ∷ rest))
number-fate next rest (is_plain p) taken rows =
    go-on (await false rows) (walk_at false rows (behind_number next)) next rest rows (rows_at rows (behind_number next)) [] (next ∷ []) (parted rest) (parted (codes "--workers" ∷ next ∷ rest))
    (number-fault rows next p) (number-walked rows next p) (more-numbers_words next rows) (more-numbers next rows) (parted-detached next rest) (taken rows (behind_number next))
number-fate next rest (is_refused r) taken rows = refuse (await false rows) next rest rows _ (await-refused rows next r) (bad-number next rest r.number)
number-fate next rest (is_dashes is) taken rows =
    subst (λ w. Fate (await false rows) (w ∷ rest) rows (parted (codes "--workers" ∷ w ∷ rest))) (sym is) (inr (await-dashes rows rest, bad-number (codes "--") rest (minus-no_number (45 ∷ []))))
number-fate next rest (is_attached number is) taken rows =
    subst (λ w. Fate (await false rows) (w ∷ rest) rows (parted (codes "--workers" ∷ w ∷ rest))) (sym is)
    (refuse (await false rows) (codes "--workers=" ++ number) rest rows _ (await-attached rows number) (bad-number (codes "--workers=" ++ number) rest (minus-no_number (codes "-workers=" ++ number))))
number-fate next rest (is_detached is) taken rows =
    subst (λ w. Fate (await false rows) (w ∷ rest) rows (parted (codes "--workers" ∷ w ∷ rest))) (sym is)
    (refuse (await false rows) (codes "--workers") rest rows _ (await-detached rows) (bad-number (codes "--workers") rest (minus-no_number (codes "-workers"))))

behind-option : (rest : List Text) → AllText rest → TakenBehind rest → (rows : List Row) → Fate (await false rows) rest rows (parted (codes "--workers" ∷ rest))
behind-option [] u taken rows = inr (await-end rows, subst IsBad (sym parted-last) tt)
behind-option (next ∷ rest) (u, us) taken rows = number-fate next rest (class_of next u) taken rows

fate-step : (word : Text) (rest : List Text) → Class word → AllText rest → Taken rest → TakenBehind rest → Taken (word ∷ rest)
fate-step word rest (is_plain p) us taken behind rows s =
    go-on (walk_at false rows s) (walk_at false (rows_at rows s) (behind_word word)) word rest (rows_at rows s) (rows_at (rows_at rows s) (behind_word word)) (word ∷ []) [] (parted rest) (parted (word ∷ rest))
    (plain-fault rows s word p) (plain-walked rows s word p) (more-words word (rows_at rows s)) (more-words_many word (rows_at rows s)) (parted-plain word rest p) (taken (rows_at rows s) (behind_word word))
fate-step word rest (is_refused r) us taken behind rows s =
    refuse (walk_at false rows s) word rest (rows_at rows s) _ (walk-refused rows s word r) (subst IsBad (sym (parted-refused word rest r)) tt)
fate-step word rest (is_dashes is) us taken behind rows s =
    subst (λ w. Fate (walk_at false rows s) (w ∷ rest) (rows_at rows s) (parted (w ∷ rest))) (sym is)
    (go-on (walk_at false rows s) (walk_at true rows s) (codes "--") rest (rows_at rows s) (rows_at rows s) [] [] (Some (record { positional = rest; workers = [] })) (parted (codes "--" ∷ rest))
    (dashes-fault rows s) (dashes-walked rows s) (no-more (codes "words") (rows_at rows s)) (no-more (codes "workers") (rows_at rows s)) (parted-dashes rest) (trail rest rows s))
fate-step word rest (is_attached number is) us taken behind rows s =
    subst (λ w. Fate (walk_at false rows s) (w ∷ rest) (rows_at rows s) (parted (w ∷ rest))) (sym is)
    (go-on (walk_at false rows s) (walk_at false (with_number number (rows_at rows s)) fresh) (codes "--workers=" ++ number) rest (rows_at rows s) (with_number number (rows_at rows s)) [] (number ∷ []) (parted rest) (parted ((codes "--workers=" ++ number) ∷ rest))
    (attached-fault rows s number) (attached-walked rows s number) (more-numbers_words number (rows_at rows s)) (more-numbers number (rows_at rows s)) (parted-attached number rest) (taken (with_number number (rows_at rows s)) fresh))
fate-step word rest (is_detached is) us taken behind rows s =
    subst (λ w. Fate (walk_at false rows s) (w ∷ rest) (rows_at rows s) (parted (w ∷ rest))) (sym is)
    (go-on (walk_at false rows s) (await false (rows_at rows s)) (codes "--workers") rest (rows_at rows s) (rows_at rows s) [] [] (parted (codes "--workers" ∷ rest)) (parted (codes "--workers" ∷ rest))
    (detached-fault rows s) (detached-walked rows s) (no-more (codes "words") (rows_at rows s)) (no-more (codes "workers") (rows_at rows s)) (joined-nothing (parted (codes "--workers" ∷ rest))) (behind-option rest us behind (rows_at rows s)))

-- clap takes words and has their parts, or it fails, and they are bad
pub fate : (words : List Text) → AllText words → Taken words
fate [] u = λ rows s. inl (record { positional = []; workers = [] }, parted-nothing, nothing-left false rows s)
fate (word ∷ []) (u, us) = fate-step word [] (class_of word u) us (fate [] us) tt
fate (word ∷ next ∷ rest) (u, (v, us)) = fate-step word (next ∷ rest) (class_of word u) (v, us) (fate (next ∷ rest) (v, us)) (fate rest us)
