-- The accounts of all workers together.
use Rattle.std.proofs.Common.{◌≡◌, ℕ, zero, suc, List, [], ◌∷◌, ◌++◌, sym, ap, ◌∙◌, subst, arith, append_assoc, IsPermutation}
use Rattle.std.specs.List.{All}
use Rattle.std.proofs.lemmas.List.Sorted.{IsPermutation-refl, IsPermutation-trans, IsPermutation-append, IsPermutation-append_comm, IsPermutation-append_left, IsPermutation-append_right}
use Rattle.work_queue.specs.declared.account.Account.{Account}
use Rattle.work_queue.specs.Passes.{account_of}
use Rattle.decode_pool.specs.Served.{EachMade}
use Rattle.decode_pool.specs.Flow.{jobs_got, results_put, AccountsOfAPool}

module _ {J : Type 0} where
  pub same_list : (xs ys : List J) → xs ≡ ys → IsPermutation xs ys
  same_list xs ys e = subst (λ (l : List J). IsPermutation xs l) e (IsPermutation-refl xs)

  -- two lists in two parts each, part by part
  pub part_by_part : (a b c d : List J) → IsPermutation ((a ++ b) ++ (c ++ d)) ((a ++ c) ++ (b ++ d))
  part_by_part a b c d =
      IsPermutation-trans ((a ++ b) ++ (c ++ d)) (a ++ (c ++ (b ++ d))) ((a ++ c) ++ (b ++ d))
      (IsPermutation-trans ((a ++ b) ++ (c ++ d)) (a ++ (b ++ (c ++ d))) (a ++ (c ++ (b ++ d)))
      (same_list ((a ++ b) ++ (c ++ d)) (a ++ (b ++ (c ++ d))) (append_assoc a b (c ++ d)))
      (IsPermutation-append_right a (b ++ (c ++ d)) (c ++ (b ++ d))
      (IsPermutation-trans (b ++ (c ++ d)) ((b ++ c) ++ d) (c ++ (b ++ d))
      (same_list (b ++ (c ++ d)) ((b ++ c) ++ d) (sym (append_assoc b c d)))
      (IsPermutation-trans ((b ++ c) ++ d) ((c ++ b) ++ d) (c ++ (b ++ d))
      (IsPermutation-append_left d (b ++ c) (c ++ b) (IsPermutation-append_comm b c))
      (same_list ((c ++ b) ++ d) (c ++ (b ++ d)) (append_assoc c b d))))))
      (same_list (a ++ (c ++ (b ++ d))) ((a ++ c) ++ (b ++ d)) (sym (append_assoc a c (b ++ d))))

module _ {J : Type 0} (made : J → J → Type 0) (number : J → ℕ) where
  pub each_append : (worked given worked' given' : List J) → EachMade made number worked given → EachMade made number worked' given' → EachMade made number (worked ++ worked') (given ++ given')
  each_append [] [] worked' given' each each' = each'
  each_append [] (y ∷ given) worked' given' each each' = absurd each
  each_append (x ∷ worked) [] worked' given' each each' = absurd each
  each_append (x ∷ worked) (y ∷ given) worked' given' each each' = (each.0, each.1, each_append worked given worked' given' each.2 each')

  ended_cons : (last : J) (ends : List J) → number last ≡ 0 → All (λ end. number end ≡ 0) ends → All (λ end. number end ≡ 0) (last ∷ ends)
  ended_cons last ends is all zero d lt = is
  ended_cons last ends is all (suc k) d lt = all k d (omega (arith, lt))

  pub accounts : AccountsOfAPool made number
  accounts jobs results [] [] serves = record {
    worked = [];
    ends = [];
    given = [];
    each = tt;
    ended = λ k d lt. absurd (omega (arith, lt));
    got = IsPermutation-refl [];
    put = IsPermutation-refl [];
  }
  accounts jobs results [] (x ∷ new) serves = absurd serves
  accounts jobs results (a ∷ []) new serves = absurd serves
  accounts jobs results (a ∷ b ∷ old) [] serves = absurd serves
  accounts jobs results (a ∷ b ∷ old) (x ∷ []) serves = absurd serves
  accounts jobs results (a ∷ b ∷ old) (x ∷ y ∷ new) serves =
      let rest = accounts jobs results old new serves.3 in
      let one = serves.2 in
      let last = one.1 in
      let works = one.2 in
      let worked = works.0 in
      let given = works.1 in
      let got : List J = (account_of a).got in
      let put : List J = (account_of b).put in
      let got_is : (account_of x).got ≡ got ++ (worked ++ last ∷ []) =
      ap (λ (z : Account J). z.got) one.3 ∙ ap (λ (z : Account J). z.got ++ last ∷ []) works.3 ∙ append_assoc got worked (last ∷ []) in
      let put_is : (account_of y).put ≡ put ++ given = ap (λ (z : Account J). z.put) works.4 in
      record {
        worked = worked ++ rest.worked;
        ends = (last ∷ []) ++ rest.ends;
        given = given ++ rest.given;
        each = each_append worked given rest.worked rest.given works.2 rest.each;
        ended = ended_cons last rest.ends one.4 rest.ended;
        got =
            IsPermutation-trans ((account_of x).got ++ jobs_got new) ((got ++ (worked ++ last ∷ [])) ++ (jobs_got old ++ (rest.worked ++ rest.ends))) ((got ++ jobs_got old) ++ ((worked ++ rest.worked) ++ ((last ∷ []) ++ rest.ends)))
            (IsPermutation-append (account_of x).got (got ++ (worked ++ last ∷ [])) (jobs_got new) (jobs_got old ++ (rest.worked ++ rest.ends)) (same_list (account_of x).got (got ++ (worked ++ last ∷ [])) got_is) rest.got)
            (IsPermutation-trans ((got ++ (worked ++ last ∷ [])) ++ (jobs_got old ++ (rest.worked ++ rest.ends))) ((got ++ jobs_got old) ++ ((worked ++ last ∷ []) ++ (rest.worked ++ rest.ends))) ((got ++ jobs_got old) ++ ((worked ++ rest.worked) ++ ((last ∷ []) ++ rest.ends)))
            (part_by_part got (worked ++ last ∷ []) (jobs_got old) (rest.worked ++ rest.ends))
            (IsPermutation-append_right (got ++ jobs_got old) ((worked ++ last ∷ []) ++ (rest.worked ++ rest.ends)) ((worked ++ rest.worked) ++ ((last ∷ []) ++ rest.ends)) (part_by_part worked (last ∷ []) rest.worked rest.ends)));
        put =
            IsPermutation-trans ((account_of y).put ++ results_put new) ((put ++ given) ++ (results_put old ++ rest.given)) ((put ++ results_put old) ++ (given ++ rest.given))
            (IsPermutation-append (account_of y).put (put ++ given) (results_put new) (results_put old ++ rest.given) (same_list (account_of y).put (put ++ given) put_is) rest.put)
            (part_by_part put given (results_put old) rest.given);
      }
