-- Words that name inputs.
use Rattle.std.proofs.Common.{◌≡◌, ◌∙◌, ℕ, suc, ◌+◌, ◌-◌, ◌<◌, ◌≤◌, Bool, true, false, cond, not, ◌||◌, List, [], ◌∷◌, codes, length, map, take, drop, get_or, Option, Some, None, Err, String, string_bytes, if◌then◌else◌, arith, refl, sym, ap, length-append}
use Rattle.std.specs.List.{list_any, position_or_len, slice_index_or}
use Rattle.std.specs.Str.{bytes_eq}
use Rattle.std.proofs.lemmas.List.{take_all, take-map, get_or_append_left, get_or-append-add, get_or-take, get_or-drop, get_or-map, length-take-le, length-drop, length-map}
use Rattle.run_model.specs.Words.{is_option}
use Rattle.run_model.specs.declared.code.Misuse.TheVariants as misuse
use Rattle.mibtm_audit.specs.Operands.{Named, before_end, ends_options, four, four_of, inputs_by, inputs_in, is_shared, or_words, without}

module _ {Z : Type 0} where
  text_of : String Z → List ℕ
  text_of word = string_bytes word

  -- ---- tests of words and of their texts

  any-text : (p : List ℕ → Bool) (words : List (String Z)) → list_any p (map string_bytes words) ≡ list_any (λ (w : String Z). p (string_bytes w)) words
  any-text p [] = refl
  any-text p (w ∷ ws) = ap (λ (b : Bool). p (string_bytes w) || b) (any-text p ws)

  place-text : (p : List ℕ → Bool) (words : List (String Z)) → position_or_len p (map string_bytes words) ≡ position_or_len (λ (w : String Z). p (string_bytes w)) words
  place-text p [] = refl
  place-text p (w ∷ ws) = ap (λ (n : ℕ). cond (not (p (string_bytes w))) (1 + n) 0) (place-text p ws)

  -- where a word before the end looks like an option, or none does
  words-by : (words : List (String Z)) (end : ℕ) (b : Bool) → end ≡ position_or_len (λ (w : String Z). ends_options (string_bytes w)) words
      → list_any (λ (w : String Z). is_option (string_bytes w)) (take end words) ≡ b
      → inputs_by (map string_bytes words) ≡ four_of (if b then None else Some (without end (map string_bytes words)))
  unfolding inputs_by
  words-by words end b place is =
      let ws = map string_bytes words in
      let at : before_end ws ≡ end = place-text ends_options words ∙ sym place in
      let tests : list_any is_option (take end ws) ≡ b = ap (list_any is_option) (take-map string_bytes end words) ∙ (any-text is_option (take end words) ∙ is) in
      ap (λ (n : ℕ). four_of (if list_any is_option (take n ws) then None else Some (without n ws))) at
      ∙ ap (λ (c : Bool). four_of (if c then None else Some (without end ws))) tests

  pub refused : (words : List (String Z)) (end : ℕ) → end ≡ position_or_len (λ (w : String Z). ends_options (string_bytes w)) words
      → list_any (λ (w : String Z). is_option (string_bytes w)) (take end words) ≡ true → inputs_by (map string_bytes words) ≡ None
  refused words end place is = words-by words end true place is

  pub named-by : (words : List (String Z)) (end : ℕ) → end ≡ position_or_len (λ (w : String Z). ends_options (string_bytes w)) words
      → list_any (λ (w : String Z). is_option (string_bytes w)) (take end words) ≡ false → inputs_by (map string_bytes words) ≡ four (without end (map string_bytes words))
  named-by words end place is = words-by words end false place is

  -- ---- the words without the one that ends the options

  pub count-all : (words : List (String Z)) (end : ℕ) → end ≤ length words → length words ≤ end → length words ≡ length (without end (map string_bytes words))
  count-all words end fits all =
      let ws = map string_bytes words in
      let both = length-append (take end ws) (drop (suc end) ws) in
      let long = length-map words string_bytes in
      let front = length-take-le end ws (omega (arith, fits, long)) in
      let rest = length-drop (suc end) ws in
      omega (arith, both, long, front, rest, fits, all)

  pub count-less : (words : List (String Z)) (end : ℕ) → end < length words → length words - 1 ≡ length (without end (map string_bytes words))
  count-less words end less =
      let ws = map string_bytes words in
      let both = length-append (take end ws) (drop (suc end) ws) in
      let long = length-map words string_bytes in
      let front = length-take-le end ws (omega (arith, less, long)) in
      let rest = length-drop (suc end) ws in
      omega (arith, both, long, front, rest, less)

  pub within : (words : List (String Z)) (end at : ℕ) → end ≤ length words → at < length (without end (map string_bytes words)) → end ≤ at → at + 1 < length words
  within words end at fits among behind =
      let ws = map string_bytes words in
      let both = length-append (take end ws) (drop (suc end) ws) in
      let long = length-map words string_bytes in
      let front = length-take-le end ws (omega (arith, fits, long)) in
      let rest = length-drop (suc end) ws in
      omega (arith, both, long, front, rest, fits, among, behind)

  text-at : (words : List (String Z)) (word : String Z) (text : List ℕ) (place : ℕ) → place < length words → word ≡ get_or words place word → text ≡ string_bytes word
      → get_or (map string_bytes words) place text ≡ text
  text-at words word text place among is told = get_or-map string_bytes words place word text among ∙ (ap string_bytes (sym is) ∙ sym told)

  pub before : (words : List (String Z)) (word : String Z) (text : List ℕ) (end at : ℕ) → at < end → end ≤ length words → word ≡ get_or words at word → text ≡ string_bytes word
      → text ≡ slice_index_or (without end (map string_bytes words)) at text
  before words word text end at front fits is told =
      let ws = map string_bytes words in
      let long = length-map words string_bytes in
      let size = length-take-le end ws (omega (arith, fits, long)) in
      sym (get_or_append_left (take end ws) (drop (suc end) ws) text at (omega (arith, size, front)) ∙ (get_or-take end ws at text front ∙ text-at words word text at (omega (arith, front, fits)) is told))

  pub behind : (words : List (String Z)) (word : String Z) (text : List ℕ) (end at : ℕ) → end ≤ at → end ≤ length words → at + 1 < length words → word ≡ get_or words (at + 1) word → text ≡ string_bytes word
      → text ≡ slice_index_or (without end (map string_bytes words)) at text
  behind words word text end at back fits among is told =
      let ws = map string_bytes words in
      let long = length-map words string_bytes in
      let size = length-take-le end ws (omega (arith, fits, long)) in
      let split : at ≡ length (take end ws) + (at - end) = omega (arith, size, back) in
      let place : suc end + (at - end) ≡ at + 1 = omega (arith, back) in
      sym (ap (λ (n : ℕ). get_or (without end ws) n text) split ∙ (get_or-append-add (take end ws) (drop (suc end) ws) (at - end) text
      ∙ (get_or-drop (suc end) ws (at - end) text ∙ (ap (λ (n : ℕ). get_or ws n text) place ∙ text-at words word text (at + 1) among is told))))

-- ---- four words

abbrev inputs : List ℕ → List ℕ → List ℕ → List ℕ → Named
inputs folder feed desk text = record { folder = folder; feed = feed; desk = desk; text = text }

pub four-words : (words : List (List ℕ)) (folder feed desk text : List ℕ) (shared : Bool) → length words ≡ 4 → folder ≡ get_or words 0 folder → feed ≡ get_or words 1 feed → desk ≡ get_or words 2 desk
    → text ≡ get_or words 3 text → is_shared feed desk text ≡ shared → four words ≡ (if shared then None else Some (inputs folder feed desk text))
four-words (a ∷ b ∷ c ∷ d ∷ []) folder feed desk text shared long one two three last is =
    (λ i. if is_shared (sym two i) (sym three i) (sym last i) then None else Some (inputs (sym one i) (sym two i) (sym three i) (sym last i)))
    ∙ ap (λ (s : Bool). if s then None else Some (inputs folder feed desk text)) is
four-words [] folder feed desk text shared long one two three last is = absurd (omega (arith, long))
four-words (a ∷ []) folder feed desk text shared long one two three last is = absurd (omega (arith, long))
four-words (a ∷ b ∷ []) folder feed desk text shared long one two three last is = absurd (omega (arith, long))
four-words (a ∷ b ∷ c ∷ []) folder feed desk text shared long one two three last is = absurd (omega (arith, long))
four-words (a ∷ b ∷ c ∷ d ∷ e ∷ ws) folder feed desk text shared long one two three last is = absurd (omega (arith, long))

pub shared-words : (words : List (List ℕ)) (feed desk text : List ℕ) → length words ≡ 4 → feed ≡ get_or words 1 feed → desk ≡ get_or words 2 desk → text ≡ get_or words 3 text
    → is_shared feed desk text ≡ true → four words ≡ None
shared-words (a ∷ b ∷ c ∷ d ∷ []) feed desk text long two three last is = four-words (a ∷ b ∷ c ∷ d ∷ []) a feed desk text true long refl two three last is
shared-words [] feed desk text long two three last is = absurd (omega (arith, long))
shared-words (a ∷ []) feed desk text long two three last is = absurd (omega (arith, long))
shared-words (a ∷ b ∷ []) feed desk text long two three last is = absurd (omega (arith, long))
shared-words (a ∷ b ∷ c ∷ []) feed desk text long two three last is = absurd (omega (arith, long))
shared-words (a ∷ b ∷ c ∷ d ∷ e ∷ ws) feed desk text long two three last is = absurd (omega (arith, long))

pub other-count : (words : List (List ℕ)) → (length words ≡ 4 → ⊥) → four words ≡ None
other-count [] not = refl
other-count (a ∷ []) not = refl
other-count (a ∷ b ∷ []) not = refl
other-count (a ∷ b ∷ c ∷ []) not = refl
other-count (a ∷ b ∷ c ∷ d ∷ []) not = absurd (not refl)
other-count (a ∷ b ∷ c ∷ d ∷ e ∷ ws) not = refl

-- ---- the command

-- the first word, and those behind it
first-words : {Z : Type 0} (words : List (String Z)) (word : String Z) → 1 ≤ length words → word ≡ get_or words 0 word → map string_bytes words ≡ string_bytes word ∷ map string_bytes (take (length words - 1) (drop 1 words))
first-words [] word some is = absurd (omega (arith, some))
first-words (x ∷ xs) word some is = ap (λ w. string_bytes w ∷ map string_bytes xs) (sym is) ∙ ap (λ ws. string_bytes word ∷ map string_bytes ws) (sym (take_all (length (x ∷ xs) - 1) xs (omega arith)))

pub command-of : {Z : Type 0} (words : List (String Z)) (word : String Z) (text : List ℕ) (audit : Bool) (o : Option Named) → 1 ≤ length words → word ≡ get_or words 0 word → text ≡ string_bytes word
    → bytes_eq text (codes "audit") ≡ audit → inputs_by (map string_bytes (take (length words - 1) (drop 1 words))) ≡ o → inputs_in (map string_bytes words) ≡ (if audit then or_words o else Err misuse.Command)
unfolding inputs_in
command-of words word text audit o some is told tests named =
    let rest = map string_bytes (take (length words - 1) (drop 1 words)) in
    ap inputs_in (first-words words word some is)
    ∙ (ap (λ (t : List ℕ). cond (bytes_eq t (codes "audit")) (or_words (inputs_by rest)) (Err misuse.Command)) (sym told)
    ∙ (ap (λ (b : Bool). cond b (or_words (inputs_by rest)) (Err misuse.Command)) tests
    ∙ ap (λ (x : Option Named). cond audit (or_words x) (Err misuse.Command)) named))

pub no-words-command : {Z : Type 0} (words : List (String Z)) → length words < 1 → inputs_in (map string_bytes words) ≡ Err misuse.Command
unfolding inputs_in
no-words-command [] none = refl
no-words-command (w ∷ ws) none = absurd (omega (arith, none))
