-- The octets of a line, field by field.
use Rattle.std.proofs.Common.{◌≡◌, ◌+◌, ◌-◌, ◌<◌, ◌≤◌, ℕ, zero, suc, Bool, true, false, List, [], ◌∷◌, drop, length, get_or, length-append, drop-cons, add-one, ap, sym, refl, ◌∙◌, inl, inr, arith}
use Rattle.std.specs.Prelude.{unwrap_or, slice_get, nat_lt, nat_le, if◌then◌else◌}
use Rattle.std.proofs.lemmas.Bool.{cases_Bool}
use Rattle.std.proofs.lemmas.Bool.Decides.{nat_tests}
use Rattle.std.proofs.lemmas.List.{drop_all}
use Rattle.mib_rows.specs.Left.{line_of}

-- whether fields with a tab behind each need more than this room
abbrev pub longer_by : ℕ → List (List ℕ) → Bool
longer_by room [] = false
longer_by room (field ∷ more) = if nat_le room (length field) then true else longer_by (room - (length field + 1)) more

longer_by-some : (room : ℕ) (field : List ℕ) (more : List (List ℕ)) → longer_by room (field ∷ more) ≡ nat_le room (length (line_of (field ∷ more)))
longer_by-some room field [] = elim (cases_Bool (nat_le room (length field))) [
  | inl over ↦ rw over refl
  | inr under ↦ rw under refl
]
longer_by-some room field (next ∷ more) =
    let size : length (line_of (field ∷ next ∷ more)) ≡ length field + suc (length (line_of (next ∷ more))) = length-append field (9 ∷ line_of (next ∷ more)) in
    elim (cases_Bool (nat_le room (length field))) [
      | inl over ↦ rw (over, size) (sym (le_more room (length field) (length (line_of (next ∷ more))) over))
      | inr under ↦ rw (under, size) (longer_by-some (room - (length field + 1)) next more ∙ le_less room (length field) (length (line_of (next ∷ more))) under)
    ]
  where
    le_more : (room n m : ℕ) → nat_le room n ≡ true → nat_le room (n + suc m) ≡ true
    le_more room n m over = grind (arith, nat_tests)

    le_less : (room n m : ℕ) → nat_le room n ≡ false → nat_le (room - (n + 1)) m ≡ nat_le room (n + suc m)
    le_less room n m under = grind (arith, nat_tests)

longer_by-line : (most : ℕ) (row : List (List ℕ)) → longer_by (most + 1) row ≡ nat_lt most (length (line_of row))
longer_by-line most [] = grind (arith, nat_tests)
longer_by-line most (field ∷ more) = longer_by-some (most + 1) field more ∙ le_lt most (length (line_of (field ∷ more)))
  where
    le_lt : (most n : ℕ) → nat_le (most + 1) n ≡ nat_lt most n
    le_lt most n = grind (arith, nat_tests)

get-field : (row : List (List ℕ)) (at : ℕ) → unwrap_or (slice_get row at) [] ≡ get_or row at []
get-field [] at = refl
get-field (field ∷ row) zero = refl
get-field (field ∷ row) (suc at) = get-field row at

longer_by-at : (room : ℕ) (row : List (List ℕ)) (at : ℕ) (field : List ℕ) → at < length row → field ≡ unwrap_or (slice_get row at) []
    → longer_by room (drop at row) ≡ longer_by room (field ∷ drop (at + 1) row)
longer_by-at room row at field inside is = rw (add-one at, is, get-field row at) (ap (longer_by room) (drop-cons row at [] inside))

module _ (most room : ℕ) (row : List (List ℕ)) (at : ℕ) where
  -- a field that has no room
  pub longer-here : (field : List ℕ) → at < length row → field ≡ unwrap_or (slice_get row at) [] → longer_by room (drop at row) ≡ longer_by (most + 1) row
      → room ≤ length field → true ≡ nat_lt most (length (line_of row))
  longer-here field inside is so_far over =
      let test : nat_le room (length field) ≡ true = grind (arith, nat_tests) in
      sym (rw test at (longer_by-at room row at field inside is)) ∙ so_far ∙ longer_by-line most row

  -- a field that has room
  pub longer-next : (field : List ℕ) → at < length row → field ≡ unwrap_or (slice_get row at) [] → longer_by room (drop at row) ≡ longer_by (most + 1) row
      → length field < room → longer_by (room - (length field + 1)) (drop (at + 1) row) ≡ longer_by (most + 1) row
  longer-next field inside is so_far under =
      let test : nat_le room (length field) ≡ false = grind (arith, nat_tests) in
      sym (rw test at (longer_by-at room row at field inside is)) ∙ so_far

  -- behind the last field
  pub longer-end : length row ≤ at → longer_by room (drop at row) ≡ longer_by (most + 1) row → false ≡ nat_lt most (length (line_of row))
  longer-end past so_far = (rw (drop_all at row past) at so_far) ∙ longer_by-line most row
