-- The passes of all workers, cut into pairs.
use Rattle.std.proofs.Common.{◌≡◌, ◌<◌, ◌*◌, ◌/◌, ◌%◌, ℕ, zero, suc, List, [], ◌∷◌, ◌++◌, length, take, drop, sym, refl, subst, arith}
use Rattle.std.specs.Fork.{slice_chunk, IsChunk}
use Rattle.work_queue.specs.declared.queue.Queue.{Queue}
use Rattle.work_queue.specs.declared.queue.Pass.{Pass}
use Rattle.work_queue.specs.Passes.{IsOf}
use Rattle.decode_pool.specs.Served.{Ready, AllServe}

module _ {J : Type 0} (jobs results : Queue J) where
  ready_even : (passes : List (Pass J)) → Ready jobs results passes → length passes % 2 ≡ 0
  ready_even [] ready = refl
  ready_even (a ∷ []) ready = absurd ready
  ready_even (a ∷ b ∷ passes) ready = let rest = ready_even passes ready.2 in omega (arith, rest)

  -- behind some pairs, and of the first pair
  ready_drop : (passes : List (Pass J)) (n : ℕ) → Ready jobs results passes → Ready jobs results (drop (n * 2) passes)
  ready_drop passes zero ready = ready
  ready_drop [] (suc n) ready = subst (λ (k : ℕ). Ready jobs results (drop k [])) (twice n) tt
    where
      twice : (m : ℕ) → suc (suc (m * 2)) ≡ suc m * 2
      twice m = omega arith
  ready_drop (a ∷ []) (suc n) ready = absurd ready
  ready_drop (a ∷ b ∷ passes) (suc n) ready =
      let twice : suc (suc (n * 2)) ≡ suc n * 2 = omega arith in
      subst (λ (k : ℕ). Ready jobs results (drop k (a ∷ b ∷ passes))) twice (ready_drop passes n ready.2)

  ready_take : (passes : List (Pass J)) → Ready jobs results passes → Ready jobs results (take 2 passes)
  ready_take [] ready = tt
  ready_take (a ∷ []) ready = absurd ready
  ready_take (a ∷ b ∷ passes) ready = (ready.0, ready.1, tt)

  -- each chunk of two is a pair that is ready
  pub chunk_ready : (passes : List (Pass J)) → Ready jobs results passes → (start : ℕ) (pair : List (Pass J)) → IsChunk passes 2 start pair → (length pair ≡ 2) × Ready jobs results pair
  chunk_ready passes ready start pair chunk =
      let even : start ≡ (start / 2) * 2 = omega (arith, chunk.start_is_multiple) in
      let there : Ready jobs results (take 2 (drop start passes)) = subst (λ (k : ℕ). Ready jobs results (take 2 (drop k passes))) (sym even) (ready_take (drop ((start / 2) * 2) passes) (ready_drop passes (start / 2) ready)) in
      (chunk.full_size (ready_even passes ready), subst (λ (l : List (Pass J)). Ready jobs results l) (sym chunk.value) there)

  -- where each pair served, all did
  pub all_serve : (made : J → J → Type 0) (number : J → ℕ) (old new : List (Pass J)) → Ready jobs results old → length new ≡ length old
      → ((n : ℕ) → n * 2 < length old → AllServe jobs results made number (slice_chunk old 2 n) (slice_chunk new 2 n)) → AllServe jobs results made number old new
  all_serve made number [] [] ready same each = tt
  all_serve made number [] (x ∷ new) ready same each = absurd (omega (arith, same))
  all_serve made number (a ∷ []) new ready same each = absurd ready
  all_serve made number (a ∷ b ∷ old) [] ready same each = absurd (omega (arith, same))
  all_serve made number (a ∷ b ∷ old) (x ∷ []) ready same each = absurd (omega (arith, same))
  all_serve made number (a ∷ b ∷ old) (x ∷ y ∷ new) ready same each =
      let first = each 0 (omega arith) in
      let twice : (n : ℕ) → suc n * 2 ≡ suc (suc (n * 2)) = λ n. omega arith in
      let rest : (n : ℕ) → n * 2 < length old → AllServe jobs results made number (slice_chunk old 2 n) (slice_chunk new 2 n) =
      λ n lt. subst (λ (k : ℕ). AllServe jobs results made number (take 2 (drop k (a ∷ b ∷ old))) (take 2 (drop k (x ∷ y ∷ new)))) (twice n) (each (suc n) (omega (arith, lt))) in
      (first.0, first.1, first.2, all_serve made number old new ready.2 (omega (arith, same)) rest)

  -- two passes more, for one more worker
  pub ready_push : (passes : List (Pass J)) (a b : Pass J) → Ready jobs results passes → IsOf jobs a → IsOf results b → Ready jobs results ((passes ++ a ∷ []) ++ b ∷ [])
  ready_push [] a b ready p q = (p, q, tt)
  ready_push (x ∷ []) a b ready p q = absurd ready
  ready_push (x ∷ y ∷ passes) a b ready p q = (ready.0, ready.1, ready_push passes a b ready.2 p q)
