-- Names with equal octets, and plans at places.
use Rattle.std.proofs.Common.{◌≡◌, ◌∙◌, ℕ, true, List, get_or, sym, ap, arith, ltb}
use Rattle.std.proofs.lemmas.Slice.Eq.{bytes_eq-Decides}
use Rattle.std.specs.Str.{bytes_eq}
use Rattle.param_plan.specs.Slices.{ParamSlice}

-- names with equal octets are equal
pub same-name : (x y : List ℕ) → bytes_eq x y ≡ true → x ≡ y
same-name x y same = (bytes_eq-Decides x y).0 same

-- what is behind a handle at a place stands there
pub plan-there : (params : List ParamSlice) (i : ℕ) (x s : ParamSlice) → s ≡ x → x ≡ get_or params i x → s ≡ get_or params i s
plan-there params i x s same is = same ∙ is ∙ ap (λ (d : ParamSlice). get_or params i d) (sym same)
