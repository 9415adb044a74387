-- The names of a run's parameters are names.
use Rattle.std.proofs.Common.{◌≡◌, ℕ, ◌+◌, ◌%◌, ◌^◌, ◌<◌, ◌≤◌, true, cond, ◌&&◌, List, [], ◌∷◌, ◌++◌, length, ap, ◌∙◌, arith, Some, None, codes}
use Rattle.std.specs.Prelude.{decimal}
use Rattle.std.specs.List.{list_all}
use Rattle.std.proofs.lemmas.Bool.Decides.{nat_tests}
use Rattle.std.proofs.lemmas.Fmt.{decimal_by_steps, length-decimal-le}
use Rattle.std.proofs.lemmas.List.Folds.{list_all-append}
use Rattle.mib_model.specs.Names.{is_visible, is_name, name_of}
use Rattle.tm_drill.specs.Tables.{parameter_name}

-- a digit is visible
digit-visible : (n : ℕ) → n < 10 → list_all is_visible ((48 + n) ∷ []) ≡ true
digit-visible n below = grind (arith, nat_tests)

more-visible : (n : ℕ) (ds : List ℕ) → list_all is_visible ds ≡ true → list_all is_visible (ds ++ ((48 + n % 10) ∷ [])) ≡ true
more-visible n ds all = list_all-append is_visible ds ((48 + n % 10) ∷ []) ∙ (ap (λ b. b && list_all is_visible ((48 + n % 10) ∷ [])) all ∙ digit-visible (n % 10) (omega arith))

-- the digits of a number are visible
digits-visible : (n : ℕ) → n < 2 ^ 64 → list_all is_visible (decimal n) ≡ true
digits-visible = decimal_by_steps (λ n ds. list_all is_visible ds ≡ true) digit-visible (λ n ds few all. more-visible n ds all)

-- D and three digits at most are a name
is-name : (digits : List ℕ) → length digits ≤ 3 → list_all is_visible digits ≡ true → is_name (68 ∷ digits) ≡ true
is-name digits few all = grind (arith, nat_tests, all)

named : (octets : List ℕ) → is_name octets ≡ true → name_of octets ≡ Some octets
named octets is = ap (λ b. cond b (Some octets) None) is

-- the name of a parameter is one
pub parameter-named : (n : ℕ) → n < 2 ^ 8 → name_of ([] ++ codes "D" ++ decimal n) ≡ Some (parameter_name n)
unfolding parameter_name
parameter-named n below = named (codes "D" ++ decimal n) (is-name (decimal n) (length-decimal-le 3 n (omega arith) (omega arith) (omega arith)) (digits-visible n (omega arith)))
