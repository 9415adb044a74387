-- Words that name inputs.
use Rattle.std.proofs.Common.{◌≡◌, ◌∙◌, ℕ, ◌-◌, ◌<◌, ◌≤◌, Bool, true, false, cond, List, [], ◌∷◌, codes, length, map, take, drop, get_or, Option, Some, None, Err, String, string_bytes, if◌then◌else◌, arith, option_map, option_and_then, refl, sym, ap, inl, inr}
use Rattle.std.proofs.lemmas.Bool.{cases_Bool}
use Rattle.std.proofs.lemmas.List.{take_all}
use Rattle.std.proofs.lemmas.Slice.Eq.{bytes_eq-Decides}
use Rattle.std.specs.Str.{bytes_eq}
use Rattle.run_model.specs.Words.{is_option}
use Rattle.run_model.specs.declared.code.Misuse.TheVariants as misuse
use Rattle.mibtm_build.specs.Operands.{Named, inputs_by, inputs_in, operands, or_words, two}

-- the inputs of two words
abbrev pub both : List ℕ → List ℕ → Option Named
both folder asks = Some (record { folder = folder; asks = asks })

-- the word that ends the options looks like one
ends-is-option : (word : List ℕ) → bytes_eq word (codes "--") ≡ true → is_option word ≡ true
ends-is-option word is = ap is_option ((bytes_eq-Decides word (codes "--")).0 is)

true-false : {P : Type 0} {b : Bool} → b ≡ true → b ≡ false → P
true-false one two = absurd (cc (sym one ∙ two))

pub no-words : inputs_by [] ≡ None
unfolding operands
no-words = refl

pub one-word : (a : List ℕ) → inputs_by (a ∷ []) ≡ None
unfolding operands
one-word a = elim (cases_Bool (bytes_eq a (codes "--"))) [
  | inl is ↦ rw is refl
  | inr not ↦ elim (cases_Bool (is_option a)) [ inl is ↦ rw (not, is) refl | inr plain ↦ rw (not, plain) refl ]
]

pub two-plain : (a b : List ℕ) → is_option a ≡ false → is_option b ≡ false → inputs_by (a ∷ b ∷ []) ≡ both a b
unfolding operands
two-plain a b plain_a plain_b = elim (cases_Bool (bytes_eq a (codes "--"))) [
  | inl is ↦ true-false (ends-is-option a is) plain_a
  | inr not_a ↦ elim (cases_Bool (bytes_eq b (codes "--"))) [
    | inl is ↦ true-false (ends-is-option b is) plain_b
    | inr not_b ↦ rw (not_a, plain_a, not_b, plain_b) refl
  ]
]

pub first-option : (a b : List ℕ) → is_option a ≡ true → inputs_by (a ∷ b ∷ []) ≡ None
unfolding operands
first-option a b option = elim (cases_Bool (bytes_eq a (codes "--"))) [ inl is ↦ rw is refl | inr not ↦ rw (not, option) refl ]

pub second-option : (a b : List ℕ) → is_option a ≡ false → is_option b ≡ true → inputs_by (a ∷ b ∷ []) ≡ None
unfolding operands
second-option a b plain option = elim (cases_Bool (bytes_eq a (codes "--"))) [
  | inl is ↦ true-false (ends-is-option a is) plain
  | inr not_a ↦ elim (cases_Bool (bytes_eq b (codes "--"))) [ inl is ↦ rw (not_a, plain, is) refl | inr not_b ↦ rw (not_a, plain, not_b, option) refl ]
]

-- three words, of which one ends the options
pub ends-first : (a b c : List ℕ) → bytes_eq a (codes "--") ≡ true → inputs_by (a ∷ b ∷ c ∷ []) ≡ both b c
unfolding operands
ends-first a b c is = rw is refl

pub three-option : (a b c : List ℕ) → bytes_eq a (codes "--") ≡ false → is_option a ≡ true → inputs_by (a ∷ b ∷ c ∷ []) ≡ None
unfolding operands
three-option a b c not option = rw (not, option) refl

pub ends-second : (a b c : List ℕ) → bytes_eq a (codes "--") ≡ false → is_option a ≡ false → bytes_eq b (codes "--") ≡ true → inputs_by (a ∷ b ∷ c ∷ []) ≡ both a c
unfolding operands
ends-second a b c not plain is = rw (not, plain, is) refl

pub three-second : (a b c : List ℕ) → bytes_eq a (codes "--") ≡ false → is_option a ≡ false → bytes_eq b (codes "--") ≡ false → is_option b ≡ true → inputs_by (a ∷ b ∷ c ∷ []) ≡ None
unfolding operands
three-second a b c not plain not_b option = rw (not, plain, not_b, option) refl

pub ends-third : (a b c : List ℕ) → bytes_eq a (codes "--") ≡ false → is_option a ≡ false → bytes_eq b (codes "--") ≡ false → is_option b ≡ false → bytes_eq c (codes "--") ≡ true
    → inputs_by (a ∷ b ∷ c ∷ []) ≡ both a b
unfolding operands
ends-third a b c not plain not_b plain_b is = rw (not, plain, not_b, plain_b, is) refl

pub no-end : (a b c : List ℕ) → bytes_eq a (codes "--") ≡ false → is_option a ≡ false → bytes_eq b (codes "--") ≡ false → is_option b ≡ false → bytes_eq c (codes "--") ≡ false
    → inputs_by (a ∷ b ∷ c ∷ []) ≡ None
unfolding operands
no-end a b c not plain not_b plain_b not_c = elim (cases_Bool (is_option c)) [
  | inl option ↦ rw (not, plain, not_b, plain_b, not_c, option) refl
  | inr plain_c ↦ rw (not, plain, not_b, plain_b, not_c, plain_c) refl
]

-- four words or more
behind-three : (a b c : List ℕ) (o : Option (List (List ℕ))) → option_and_then two (option_map (λ more. a ∷ more) (option_map (λ more. b ∷ more) (option_map (λ more. c ∷ more) o))) ≡ None
behind-three a b c None = refl
behind-three a b c (Some more) = refl

pub many-words : (a b c d : List ℕ) (rest : List (List ℕ)) → inputs_by (a ∷ b ∷ c ∷ d ∷ rest) ≡ None
unfolding operands
many-words a b c d rest = elim (cases_Bool (bytes_eq a (codes "--"))) [
  | inl is ↦ rw is refl
  | inr not_a ↦ elim (cases_Bool (is_option a)) [
    | inl option ↦ rw (not_a, option) refl
    | inr plain_a ↦ elim (cases_Bool (bytes_eq b (codes "--"))) [
      | inl is ↦ rw (not_a, plain_a, is) refl
      | inr not_b ↦ elim (cases_Bool (is_option b)) [
        | inl option ↦ rw (not_a, plain_a, not_b, option) refl
        | inr plain_b ↦ elim (cases_Bool (bytes_eq c (codes "--"))) [
          | inl is ↦ rw (not_a, plain_a, not_b, plain_b, is) refl
          | inr not_c ↦ elim (cases_Bool (is_option c)) [
            | inl option ↦ rw (not_a, plain_a, not_b, plain_b, not_c, option) refl
            | inr plain_c ↦ rw (not_a, plain_a, not_b, plain_b, not_c, plain_c) (behind-three a b c (operands (d ∷ rest)))
          ]
        ]
      ]
    ]
  ]
]

pub few-words : {Z : Type 0} (words : List (String Z)) → length words < 2 → inputs_by (map string_bytes words) ≡ None
few-words [] few = no-words
few-words (w ∷ []) few = one-word (string_bytes w)
few-words (w ∷ v ∷ ws) few = absurd (omega (arith, few))

pub more-words : {Z : Type 0} (words : List (String Z)) → 4 ≤ length words → inputs_by (map string_bytes words) ≡ None
more-words [] more = absurd (omega (arith, more))
more-words (a ∷ []) more = absurd (omega (arith, more))
more-words (a ∷ b ∷ []) more = absurd (omega (arith, more))
more-words (a ∷ b ∷ c ∷ []) more = absurd (omega (arith, more))
more-words (a ∷ b ∷ c ∷ d ∷ ws) more = many-words (string_bytes a) (string_bytes b) (string_bytes c) (string_bytes d) (map string_bytes ws)

-- ---- the command

-- the first word, and those behind it
first-words : {Z : Type 0} (words : List (String Z)) (word : String Z) → 1 ≤ length words → word ≡ get_or words 0 word → map string_bytes words ≡ string_bytes word ∷ map string_bytes (take (length words - 1) (drop 1 words))
first-words [] word some is = absurd (omega (arith, some))
first-words (x ∷ xs) word some is = ap (λ w. string_bytes w ∷ map string_bytes xs) (sym is) ∙ ap (λ ws. string_bytes word ∷ map string_bytes ws) (sym (take_all (length (x ∷ xs) - 1) xs (omega arith)))

pub command-of : {Z : Type 0} (words : List (String Z)) (word : String Z) (text : List ℕ) (build : Bool) (o : Option Named) → 1 ≤ length words → word ≡ get_or words 0 word → text ≡ string_bytes word
    → bytes_eq text (codes "build") ≡ build → inputs_by (map string_bytes (take (length words - 1) (drop 1 words))) ≡ o → inputs_in (map string_bytes words) ≡ (if build then or_words o else Err misuse.Command)
unfolding inputs_in
command-of words word text build o some is told tests named =
    let rest = map string_bytes (take (length words - 1) (drop 1 words)) in
    ap inputs_in (first-words words word some is)
    ∙ (ap (λ (t : List ℕ). cond (bytes_eq t (codes "build")) (or_words (inputs_by rest)) (Err misuse.Command)) (sym told)
    ∙ (ap (λ (b : Bool). cond b (or_words (inputs_by rest)) (Err misuse.Command)) tests
    ∙ ap (λ (x : Option Named). cond build (or_words x) (Err misuse.Command)) named))

pub no-words-command : {Z : Type 0} (words : List (String Z)) → length words < 1 → inputs_in (map string_bytes words) ≡ Err misuse.Command
unfolding inputs_in
no-words-command [] none = refl
no-words-command (w ∷ ws) none = absurd (omega (arith, none))
