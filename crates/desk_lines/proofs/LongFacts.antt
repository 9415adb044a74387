-- Lines that are too long.
use Rattle.std.proofs.Common.{suc, ◌≡◌, ◌∙◌, ℕ, ◌<◌, ◌≤◌, ◌-◌, Bool, List, [], ◌∷◌, length, take, get_or, ◌==◌, refl, sym, ap, inl, inr, arith, length-take, get_or-take, slice_index}
use Rattle.std.proofs.lemmas.Bool.{cases_Bool, lt-ltb}
use Rattle.std.specs.Str.Lines.{strip_carriage_return}
use Rattle.run_model.specs.DeskLines.{is_comment, request_of}

-- of a line of two octets or more the first stays where a CR at the end goes
comment-first : (line : List ℕ) → 2 ≤ length line → is_comment (strip_carriage_return line) ≡ (get_or line 0 0 == 35)
comment-first [] two = absurd (omega (arith, two))
comment-first (c ∷ []) two = absurd (omega (arith, two))
comment-first (c ∷ d ∷ cs) two =
    let size : length (c ∷ d ∷ cs) - 1 ≡ suc (length cs) = omega arith in
    elim (cases_Bool (slice_index (c ∷ d ∷ cs) (suc (length cs)) == 13)) [
      | inl is ↦ rw (size, is) refl
      | inr not ↦ rw (size, not) refl
    ]

pub long-front : (several : Bool) (line : List ℕ) → 4096 < length line → request_of several (take 4097 line) ≡ request_of several line
unfolding request_of
long-front several line long =
    let front : length (take 4097 line) ≡ 4097 = omega (arith, length-take 4097 line, long) in
    let first : 0 < 4097 = omega arith in
    let same : is_comment (strip_carriage_return (take 4097 line)) ≡ is_comment (strip_carriage_return line) =
    comment-first (take 4097 line) (omega (arith, front)) ∙ ap (λ c. c == 35) (get_or-take 4097 line 0 0 first) ∙ sym (comment-first line (omega (arith, long))) in
    rw (same, lt-ltb 4096 (length (take 4097 line)) (omega (arith, front)), lt-ltb 4096 (length line) long) refl
