-- What a word is: to clap, and by the definitions.
use Rattle.std.proofs.Common.{◌≡◌, ℕ, ◌<◌, nat_eq, nat_le, nat_lt, ◌==◌, Bool, true, false, cond, ◌&&◌, ◌||◌, not, List, [], ◌∷◌, ◌++◌, length, take, drop, get_or, refl, ap, sym, ◌∙◌, Option, Some, None, codes, subst, arith}
use Rattle.std.specs.Prelude.{slice_get, option_and_then}
use Rattle.std.specs.List.{starts_with, before_first, after_first, position_or_len}
use Rattle.std.specs.Option.{option_map_or}
use Rattle.std.specs.Str.{bytes_eq, chars, IsUtf8}
use Rattle.std.proofs.lemmas.Bool.{eqb-false, false≢true, ne_eqb}
use Rattle.std.proofs.lemmas.Bool.Decides.{nat_tests, Decides-eqb}
use Rattle.std.proofs.lemmas.List.{take-append-drop, take_all}
use Rattle.std.proofs.lemmas.List.Sums.{split_at_first, passes_at_first}
use Rattle.std.proofs.lemmas.Slice.Eq.{bytes_eq-Decides}
use Rattle.std.proofs.lemmas.Str.{IsUtf8-drop, IsCharBoundary-after_ascii, encodes-chars}
use Rattle.std.proofs.Math.Utf8.{encodes}
use Rattle.clap.specs.Kinds.{Kinds}
use Rattle.clap.specs.Faults.{other_fault, flag_word_fault, bundle_fault, long_fault, bundle_step_fault, flags_fault}
use Rattle.clap.specs.Simple.{filled, with_index}
use Rattle.clap.specs.Lexer.{long_of, long_of_rest, short_of, short_of_rest, strip_byte, name_and_value}
use Rattle.clap.specs.Walk.{Row, Text, Held, arg_by_long}
use Rattle.clap.proofs.OnLiterals.{clap_on_literals}
use Rattle.mib_model.specs.Digits.{digits_value}
use Rattle.run_model.specs.Words.{workers_prefix, workers_option, is_option, is_standard, workers_in}
use Rattle.tool_words.specs.Line.{workers_rule}
use Rattle.tool_words.proofs.LineFacts.{shape, rules, Plain}

-- a step fails
abbrev pub NonEmpty : Kinds → Type 0
NonEmpty [] = ⊥
NonEmpty (k ∷ ks) = Unit {0}

-- an option that isn't known, or one of one letter
pub record Refused (word : Text) : Type 0 where
  pub dashes : bytes_eq word (codes "--") ≡ false
  pub attached : starts_with nat_eq word workers_prefix ≡ false
  pub detached : bytes_eq word workers_option ≡ false
  pub option : is_option word ≡ true
  pub fault : (rows : List Row) (pending : Option (Text × List Text)) → NonEmpty (other_fault shape None word (record { rows = rows; pending = pending; skip = 0 }))
  pub number : workers_in word ≡ None

pub data Class (word : Text) : Type 0 where
  is_dashes : word ≡ codes "--" → Class word
  is_attached : (number : Text) → word ≡ codes "--workers=" ++ number → Class word
  is_detached : word ≡ codes "--workers" → Class word
  is_refused : Refused word → Class word
  is_plain : Plain word → Class word

and-none : (b : Bool) → b && false ≡ false
and-none true = refl
and-none false = refl

-- what begins with `-` is no number
pub minus-no_number : (rest : List ℕ) → workers_in (45 ∷ rest) ≡ None
minus-no_number rest =
    let value = digits_value (45 ∷ rest) in
    ap (λ b. cond (b && nat_le 1 value && nat_le value 16) (Some value) None) (and-none (nat_le 1 (length (45 ∷ rest)) && nat_le (length (45 ∷ rest)) 2))

prefix-cut : (word : Text) → starts_with nat_eq word workers_prefix ≡ true → word ≡ codes "--workers=" ++ drop 10 word
prefix-cut word is = sym (take-append-drop 10 word) ∙ ap (λ p. p ++ drop 10 word) (sym ((bytes_eq-Decides workers_prefix (take 10 word)).0 is))

-- the first character of a text that isn't empty
first-char : (c : ℕ) (cs : List ℕ) → IsUtf8 (c ∷ cs) → (x : ℕ) × (slice_get (chars (c ∷ cs)) 0 ≡ Some x)
first-char c cs u = go (chars (c ∷ cs)) refl where
  go : (xs : List ℕ) → chars (c ∷ cs) ≡ xs → (x : ℕ) × (slice_get (chars (c ∷ cs)) 0 ≡ Some x)
  go [] e = absurd (cc (sym (ap encodes e) ∙ encodes-chars (c ∷ cs) u))
  go (x ∷ xs) e = (x, ap (λ l. slice_get l 0) e)

-- ---- refused words

unknown-fault : (rows : List Row) (pending : Option (Text × List Text)) (word name : Text) (v : Option Text) → bytes_eq word (codes "--") ≡ false → long_of word ≡ Some (name, v) → arg_by_long rules name ≡ None
    → NonEmpty (other_fault shape None word (record { rows = rows; pending = pending; skip = 0 }))
unknown-fault rows pending word name v dashes long none =
    let h : Held = record { rows = rows; pending = pending; skip = 0 } in
    subst NonEmpty (sym (ap (λ b. cond b [] (flag_word_fault rules false (long_of word) word h)) dashes ∙ (ap (λ l. flag_word_fault rules false l word h) long ∙ ap (λ a. long_fault rules false a v h) none))) tt

letter-fault : (rows : List Row) (pending : Option (Text × List Text)) (word : Text) (c : ℕ) (cs : List ℕ) → bytes_eq word (codes "--") ≡ false → long_of word ≡ None → short_of word ≡ Some (c ∷ cs) → IsUtf8 (c ∷ cs)
    → NonEmpty (other_fault shape None word (record { rows = rows; pending = pending; skip = 0 }))
unfolding clap_on_literals
letter-fault rows pending word c cs dashes long short u =
    let h : Held = record { rows = rows; pending = pending; skip = 0 } in
    let first = first-char c cs u in
    subst NonEmpty (sym (ap (λ b. cond b [] (flag_word_fault rules false (long_of word) word h)) dashes ∙ (ap (λ l. flag_word_fault rules false l word h) long
    ∙ (ap (λ f. option_map_or (λ flags. bundle_fault rules false flags h) f []) short ∙ ap (λ x. bundle_step_fault rules false x (c ∷ cs) 0 h (flags_fault rules false (length cs))) first.1)))) tt

-- ---- the class of a word

-- a word of two `-` and more is none of the program's options, if it is neither of its spellings
not-workers : (rest : Text) → starts_with nat_eq (45 ∷ 45 ∷ rest) workers_prefix ≡ false → bytes_eq (45 ∷ 45 ∷ rest) workers_option ≡ false → bytes_eq (codes "workers") (before_first (λ x. x == 61) rest) ≡ false
not-workers rest attached detached = go (bytes_eq (codes "workers") (before_first (λ x. x == 61) rest)) refl where
  whole : (b : Bool) → nat_lt (position_or_len (λ x. x == 61) rest) (length rest) ≡ b → codes "workers" ≡ before_first (λ x. x == 61) rest → ⊥
  whole true within name =
      let below : position_or_len (λ x. x == 61) rest < length rest = grind (arith, nat_tests, within) in
      let sign : get_or rest (position_or_len (λ x. x == 61) rest) 0 ≡ 61 = (Decides-eqb _ 61).0 (passes_at_first (λ x. x == 61) rest 0 below) in
      let cut : rest ≡ codes "workers" ++ 61 ∷ after_first (λ x. x == 61) rest =
      split_at_first (λ x. x == 61) rest 0 below ∙ (ap (λ c. before_first (λ x. x == 61) rest ++ c ∷ after_first (λ x. x == 61) rest) sign ∙ ap (λ n. n ++ 61 ∷ after_first (λ x. x == 61) rest) (sym name)) in
      false≢true (sym attached ∙ ap (λ r. starts_with nat_eq (45 ∷ 45 ∷ r) workers_prefix) cut)
  whole false past name =
      let all : before_first (λ x. x == 61) rest ≡ rest = take_all (position_or_len (λ x. x == 61) rest) rest (grind (arith, nat_tests, past)) in
      false≢true (sym detached ∙ ap (λ r. bytes_eq (45 ∷ 45 ∷ r) workers_option) (sym (name ∙ all)))

  go : (b : Bool) → bytes_eq (codes "workers") (before_first (λ x. x == 61) rest) ≡ b → bytes_eq (codes "workers") (before_first (λ x. x == 61) rest) ≡ false
  go true is = absurd (whole (nat_lt (position_or_len (λ x. x == 61) rest) (length rest)) refl ((bytes_eq-Decides (codes "workers") (before_first (λ x. x == 61) rest)).0 is))
  go false is = is

-- no argument has this name
no-argument : (name : Text) → bytes_eq (codes "workers") name ≡ false → arg_by_long rules name ≡ None
no-argument name apart = ap (λ b. cond (b || false) (Some (with_index 1 (filled workers_rule))) None) apart

other-letter : (x : ℕ) (xs : List ℕ) → nat_eq x 45 ≡ false → starts_with nat_eq (x ∷ xs) workers_prefix ≡ false → bytes_eq (x ∷ xs) workers_option ≡ false → bytes_eq (x ∷ xs) (codes "--") ≡ false → Plain (x ∷ xs)
other-letter x xs other attached detached dashes = record {
  dashes = dashes;
  long = ap (λ b. option_and_then long_of_rest (option_and_then (strip_byte 45) (cond b (Some xs) None))) other;
  short = ap (λ b. option_and_then short_of_rest (cond b (Some xs) None)) other;
  attached = attached;
  detached = detached;
  option = ap (λ b. b && true && not (is_standard (x ∷ xs))) (turned x other);
} where
  turned : (n : ℕ) → nat_eq n 45 ≡ false → nat_eq 45 n ≡ false
  turned n e = ne_eqb 45 n (λ is. eqb-false n 45 e (sym is))

one-minus : Plain (45 ∷ [])
one-minus = record { dashes = refl; long = refl; short = refl; attached = refl; detached = refl; option = refl }

one-letter : (y : ℕ) (ys : List ℕ) → IsUtf8 (45 ∷ y ∷ ys) → nat_eq y 45 ≡ false → starts_with nat_eq (45 ∷ y ∷ ys) workers_prefix ≡ false → bytes_eq (45 ∷ y ∷ ys) workers_option ≡ false → bytes_eq (45 ∷ y ∷ ys) (codes "--") ≡ false → Refused (45 ∷ y ∷ ys)
one-letter y ys u other attached detached dashes =
    let long : long_of (45 ∷ y ∷ ys) ≡ None = ap (λ b. option_and_then long_of_rest (cond b (Some ys) None)) other in
    let short : short_of (45 ∷ y ∷ ys) ≡ Some (y ∷ ys) = ap (λ b. cond b None (Some (y ∷ ys))) other in
    let rest : IsUtf8 (y ∷ ys) = IsUtf8-drop (45 ∷ y ∷ ys) 1 u (IsCharBoundary-after_ascii (45 ∷ y ∷ ys) 0 u (omega arith) (omega arith)) in
    record {
      dashes = dashes;
      attached = attached;
      detached = detached;
      option = refl;
      fault = λ rows pending. letter-fault rows pending (45 ∷ y ∷ ys) y ys dashes long short rest;
      number = minus-no_number (y ∷ ys);
    }

two-minus : (z : ℕ) (zs : List ℕ) → starts_with nat_eq (45 ∷ 45 ∷ z ∷ zs) workers_prefix ≡ false → bytes_eq (45 ∷ 45 ∷ z ∷ zs) workers_option ≡ false → bytes_eq (45 ∷ 45 ∷ z ∷ zs) (codes "--") ≡ false → Refused (45 ∷ 45 ∷ z ∷ zs)
two-minus z zs attached detached dashes = record {
  dashes = dashes;
  attached = attached;
  detached = detached;
  option = refl;
  fault = λ rows pending. unknown-fault rows pending (45 ∷ 45 ∷ z ∷ zs) (name_and_value (z ∷ zs)).0 (name_and_value (z ∷ zs)).1 dashes refl (no-argument (name_and_value (z ∷ zs)).0 (not-workers (z ∷ zs) attached detached));
  number = minus-no_number (45 ∷ z ∷ zs);
}

same-letter : (x : ℕ) → nat_eq x 45 ≡ true → x ≡ 45
same-letter x is = (Decides-eqb x 45).0 is

behind-two : (ys : List ℕ) → starts_with nat_eq (45 ∷ 45 ∷ ys) workers_prefix ≡ false → bytes_eq (45 ∷ 45 ∷ ys) workers_option ≡ false → bytes_eq (45 ∷ 45 ∷ ys) (codes "--") ≡ false → Class (45 ∷ 45 ∷ ys)
behind-two [] attached detached dashes = absurd (cc dashes)
behind-two (z ∷ zs) attached detached dashes = is_refused (two-minus z zs attached detached dashes)

behind-one : (ys : List ℕ) → IsUtf8 (45 ∷ ys) → starts_with nat_eq (45 ∷ ys) workers_prefix ≡ false → bytes_eq (45 ∷ ys) workers_option ≡ false → bytes_eq (45 ∷ ys) (codes "--") ≡ false → Class (45 ∷ ys)
behind-one [] u attached detached dashes = is_plain one-minus
behind-one (y ∷ ys) u attached detached dashes = go (nat_eq y 45) refl where
  go : (b : Bool) → nat_eq y 45 ≡ b → Class (45 ∷ y ∷ ys)
  go true is = subst (λ c. starts_with nat_eq (45 ∷ c ∷ ys) workers_prefix ≡ false → bytes_eq (45 ∷ c ∷ ys) workers_option ≡ false → bytes_eq (45 ∷ c ∷ ys) (codes "--") ≡ false → Class (45 ∷ c ∷ ys)) (sym (same-letter y is)) (behind-two ys) attached detached dashes
  go false other = is_refused (one-letter y ys u other attached detached dashes)

other-class : (word : Text) → IsUtf8 word → starts_with nat_eq word workers_prefix ≡ false → bytes_eq word workers_option ≡ false → bytes_eq word (codes "--") ≡ false → Class word
other-class [] u attached detached dashes = is_plain (record { dashes = refl; long = refl; short = refl; attached = refl; detached = refl; option = refl })
other-class (x ∷ xs) u attached detached dashes = go (nat_eq x 45) refl where
  go : (b : Bool) → nat_eq x 45 ≡ b → Class (x ∷ xs)
  go true is = subst (λ c. IsUtf8 (c ∷ xs) → starts_with nat_eq (c ∷ xs) workers_prefix ≡ false → bytes_eq (c ∷ xs) workers_option ≡ false → bytes_eq (c ∷ xs) (codes "--") ≡ false → Class (c ∷ xs)) (sym (same-letter x is)) (behind-one xs) u attached detached dashes
  go false other = is_plain (other-letter x xs other attached detached dashes)

-- each word of text has a class
pub class_of : (word : Text) → IsUtf8 word → Class word
class_of word u = attached (starts_with nat_eq word workers_prefix) refl where
  dashes : (b : Bool) → bytes_eq word (codes "--") ≡ b → starts_with nat_eq word workers_prefix ≡ false → bytes_eq word workers_option ≡ false → Class word
  dashes true is a d = is_dashes ((bytes_eq-Decides word (codes "--")).0 is)
  dashes false is a d = other-class word u a d is

  detached : (b : Bool) → bytes_eq word workers_option ≡ b → starts_with nat_eq word workers_prefix ≡ false → Class word
  detached true is a = is_detached ((bytes_eq-Decides word workers_option).0 is)
  detached false is a = dashes (bytes_eq word (codes "--")) refl a is

  attached : (b : Bool) → starts_with nat_eq word workers_prefix ≡ b → Class word
  attached true is = is_attached (drop 10 word) (prefix-cut word is)
  attached false is = detached (bytes_eq word workers_option) refl is
