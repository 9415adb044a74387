-- `==` of keys is the same key, whichever stands first.
use Rattle.std.proofs.Common.{◌≡◌, ℕ, Bool, true, false, ◌&&◌, Option, Some, None, refl, sym, ◌∙◌, nat_eq}
use Rattle.std.specs.Cmp.{nat_eq_equiv}
use Rattle.std.specs.Cmp.Lexicographic.{nat_list_eq_equiv}
use Rattle.std.specs.Option.{option_eq}
use Rattle.mib_model.specs.declared.key.Key.{Key}
use Rattle.mib_model.specs.declared.key.Key.TheVariants as key
use Rattle.mib_model.specs.Keys.{same_key}
use Rattle.mib_keys.specs.Alike.{key_eq}
use Rattle.row_flaws.proofs.AnyFacts.{both-same}

option-flip : (a b : Option ℕ) → option_eq nat_eq a b ≡ option_eq nat_eq b a
option-flip None None = refl
option-flip None (Some y) = refl
option-flip (Some x) None = refl
option-flip (Some x) (Some y) = nat_eq_equiv.symm x y

assoc : (p q r : Bool) → (p && (q && r)) ≡ (p && q && r)
assoc true q r = refl
assoc false q r = refl

pub same-by_eq : (x y : Key) → same_key x y ≡ key_eq y x
unfolding same_key
same-by_eq (key.Pcf x) (key.Pcf y) = nat_list_eq_equiv.symm x y
same-by_eq (key.Pid x) (key.Pid y) = nat_eq_equiv.symm x y
same-by_eq (key.Pic x s a) (key.Pic y t b) = both-same _ _ _ _ (both-same _ _ _ _ (nat_eq_equiv.symm x y) (nat_eq_equiv.symm s t)) (option-flip a b) ∙ sym (assoc (nat_eq y x) (nat_eq t s) (option_eq nat_eq b a))
same-by_eq (key.Tpcf x) (key.Tpcf y) = nat_eq_equiv.symm x y
same-by_eq (key.Plf x s) (key.Plf y t) = both-same _ _ _ _ (nat_list_eq_equiv.symm x y) (nat_eq_equiv.symm s t)
same-by_eq (key.Vpd x s) (key.Vpd y t) = both-same _ _ _ _ (nat_eq_equiv.symm x y) (nat_eq_equiv.symm s t)
same-by_eq (key.Cur x s) (key.Cur y t) = both-same _ _ _ _ (nat_list_eq_equiv.symm x y) (nat_eq_equiv.symm s t)
same-by_eq (key.Caf x) (key.Caf y) = nat_list_eq_equiv.symm x y
same-by_eq (key.Cap x s) (key.Cap y t) = both-same _ _ _ _ (nat_list_eq_equiv.symm x y) (nat_list_eq_equiv.symm s t)
same-by_eq (key.Txf x) (key.Txf y) = nat_list_eq_equiv.symm x y
same-by_eq (key.Txp x s) (key.Txp y t) = both-same _ _ _ _ (nat_list_eq_equiv.symm x y) (nat_list_eq_equiv.symm s t)
same-by_eq (key.Mcf x) (key.Mcf y) = nat_list_eq_equiv.symm x y
same-by_eq (key.Lgf x) (key.Lgf y) = nat_list_eq_equiv.symm x y
same-by_eq (key.Ocf x) (key.Ocf y) = nat_list_eq_equiv.symm x y
same-by_eq (key.Ocp x s) (key.Ocp y t) = both-same _ _ _ _ (nat_list_eq_equiv.symm x y) (nat_eq_equiv.symm s t)
same-by_eq x y = refl
