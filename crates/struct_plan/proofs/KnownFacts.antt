-- The rows up to the end of some groups, and those behind.
use Rattle.std.proofs.Common.{◌≡◌, ℕ, zero, suc, ◌+◌, ◌-◌, ◌<◌, ◌≤◌, Bool, true, false, nat_le, List, [], ◌∷◌, ◌++◌, length, take, drop, min, refl, sym, ap, subst, ◌∙◌, arith}
use Rattle.std.proofs.lemmas.Bool.{leb-true, leb-false}
use Rattle.std.proofs.lemmas.List.{append_assoc, append-nil, length-drop, length-take-le, take-append-drop, take_all}
use Rattle.std.specs.List.{repeat}
use Rattle.mib_model.specs.declared.database.Database.{Database}
use Rattle.mib_model.specs.declared.rows.VpdRow.{VpdRow}
use Rattle.mib_model.specs.Fixed.{most_values}
use Rattle.mib_model.specs.Structures.{group_repeated}
use Rattle.mib_model.specs.Walk.{Walking}
use Rattle.struct_plan.specs.Sources.{Source, walked_by}
use Rattle.mib_laws.proofs.Nesting.{Nested, nested-append, nested-drop, nested-take, nested-repeat}
use Rattle.struct_plan.specs.declared.group.RowGroup.{RowGroup}
use Rattle.struct_plan.specs.Groups.{size_at, end_of, body, to_end, still_to_walk, Ahead, Enclose}
use Rattle.struct_plan.proofs.NestFacts.{group-fits, end-fits}
use Rattle.struct_plan.proofs.GroupFacts.{enclose-take, enclose-length, take-still}
use Rattle.struct_plan.proofs.LeastFacts.{least, least-append, least-some, least-repeat, rows-behind}

repeat-sum : (m k n : ℕ) (xs : List VpdRow) → n ≡ m + k → repeat n xs ≡ repeat m xs ++ repeat k xs
repeat-sum zero k n xs is = let same : n ≡ k = omega (arith, is) in ap (λ i. repeat i xs) same
repeat-sum (suc m) k zero xs is = absurd (omega (arith, is))
repeat-sum (suc m) k (suc n) xs is = ap (λ (ys : List VpdRow). xs ++ ys) (repeat-sum m k n xs (omega (arith, is))) ∙ sym (append_assoc xs (repeat m xs) (repeat k xs))

module _ (rows : List VpdRow) where
  known : ℕ → List RowGroup → List VpdRow
  known at [] = []
  known at (g ∷ gs) = to_end rows at g ++ known (end_of rows g) gs

  last_end : ℕ → List RowGroup → ℕ
  last_end at [] = at
  last_end at (g ∷ gs) = last_end (end_of rows g) gs

  known-split : (at : ℕ) (gs hs : List RowGroup) → still_to_walk rows at (gs ++ hs) ≡ known at gs ++ still_to_walk rows (last_end at gs) hs
  unfolding known last_end
  known-split at [] hs = refl
  known-split at (g ∷ gs) hs =
      ap (λ (xs : List VpdRow). to_end rows at g ++ xs) (known-split (end_of rows g) gs hs) ∙
      sym (append_assoc (to_end rows at g) (known (end_of rows g) gs) (still_to_walk rows (last_end (end_of rows g) gs) hs))

  module _ (nested : Nested rows) where
    module _ (at : ℕ) (g : RowGroup) (above : g.row < at) (below : at ≤ end_of rows g) (some : 0 < size_at rows g.row) (left : 0 < g.left) (inside : end_of rows g ≤ length rows) where
      own-nested : Nested (body rows g)
      own-nested = nested-take (size_at rows g.row) (drop (g.row + 1) rows) (group-fits rows nested g.row) (nested-drop (g.row + 1) rows nested)

      rest-nested : Nested (take (end_of rows g - at) (drop at rows))
      rest-nested = nested-take (end_of rows g - at) (drop at rows) (end-fits rows nested g.row at above below) (nested-drop at rows nested)

      end-nested : Nested (to_end rows at g)
      end-nested =
          nested-append (take (end_of rows g - at) (drop at rows)) (repeat g.left (body rows g)) rest-nested (nested-repeat g.left (body rows g) own-nested)

      end-least : 1 ≤ least (to_end rows at g)
      end-least =
          let long : length (body rows g) ≡ size_at rows g.row = length-take-le (size_at rows g.row) (drop (g.row + 1) rows) (omega (arith, length-drop (g.row + 1) rows, inside)) in
          let one = least-some (body rows g) (omega (arith, long, some)) own-nested in
          let all = least-append (take (end_of rows g - at) (drop at rows)) (repeat g.left (body rows g)) rest-nested in
          let again = least-repeat g.left (body rows g) own-nested one in
          omega (arith, all, again, left)

      -- one more where the place stands before its end
      end-least-more : at < end_of rows g → 2 ≤ least (to_end rows at g)
      end-least-more before =
          let long : length (body rows g) ≡ size_at rows g.row = length-take-le (size_at rows g.row) (drop (g.row + 1) rows) (omega (arith, length-drop (g.row + 1) rows, inside)) in
          let front : length (take (end_of rows g - at) (drop at rows)) ≡ end_of rows g - at = length-take-le (end_of rows g - at) (drop at rows) (omega (arith, length-drop at rows, inside)) in
          let one = least-some (body rows g) (omega (arith, long, some)) own-nested in
          let here = least-some (take (end_of rows g - at) (drop at rows)) (omega (arith, front, before)) rest-nested in
          let all = least-append (take (end_of rows g - at) (drop at rows)) (repeat g.left (body rows g)) rest-nested in
          let again = least-repeat g.left (body rows g) own-nested one in
          omega (arith, all, again, left, here)

    known-nested : (low at : ℕ) (gs : List RowGroup) → low ≤ at → Enclose rows low at gs → Nested (known at gs)
    unfolding known
    known-nested low at [] le around = tt
    known-nested low at (g ∷ gs) le around =
        let a = around.0 in
        let s = around.2 in
        let inside = enclose-length rows g.row (end_of rows g) gs around.4 in
        nested-append (to_end rows at g) (known (end_of rows g) gs) (end-nested at g (omega (arith, a, le)) around.1 s around.3 inside)
        (known-nested g.row (end_of rows g) gs (omega arith) around.4)

    known-least : (low at : ℕ) (gs : List RowGroup) → low ≤ at → Enclose rows low at gs → length gs ≤ least (known at gs)
    unfolding known
    known-least low at [] le around = omega arith
    known-least low at (g ∷ gs) le around =
        let a = around.0 in
        let s = around.2 in
        let inside = enclose-length rows g.row (end_of rows g) gs around.4 in
        let here : g.row < at = omega (arith, a, le) in
        let one = end-least at g here around.1 s around.3 inside in
        let all = least-append (to_end rows at g) (known (end_of rows g) gs) (end-nested at g here around.1 s around.3 inside) in
        let more = known-least g.row (end_of rows g) gs (omega arith) around.4 in
        omega (arith, one, all, more)

    known-least-more : (at : ℕ) (gs : List RowGroup) → 0 < length gs → Ahead rows at gs → Enclose rows at at gs → length gs + 1 ≤ least (known at gs)
    unfolding known
    known-least-more at [] some before around = absurd (omega (arith, some))
    known-least-more at (g ∷ gs) some before around =
        let s = around.2 in
        let inside = enclose-length rows g.row (end_of rows g) gs around.4 in
        let two = end-least-more at g around.0 around.1 s around.3 inside before in
        let all = least-append (to_end rows at g) (known (end_of rows g) gs) (end-nested at g around.0 around.1 s around.3 inside) in
        let more = known-least g.row (end_of rows g) gs (omega arith) around.4 in
        omega (arith, two, all, more)

    -- the innermost groups suffice, so many that no more values have room behind them
    pub innermost-suffice : (db : Database) (source : Source) (n k at : ℕ) (gs : List RowGroup) (w : Walking) → Enclose rows at at gs → length w.values ≤ most_values → most_values < length w.values + n
        → walked_by db source k (record w { todo = still_to_walk rows at gs }) ≡ walked_by db source k (record w { todo = still_to_walk rows at (take n gs) })
    innermost-suffice db source n k at gs w around few many = sides (nat_le (length gs) n) refl where
      sides : (b : Bool) → nat_le (length gs) n ≡ b → walked_by db source k (record w { todo = still_to_walk rows at gs }) ≡ walked_by db source k (record w { todo = still_to_walk rows at (take n gs) })
      sides true is = ap (λ (hs : List RowGroup). walked_by db source k (record w { todo = still_to_walk rows at hs })) (sym (take_all n gs (leb-true (length gs) n is)))
      sides false is =
          let long : n < length gs = leb-false (length gs) n is in
          let hs : List RowGroup = take n gs in
          let count : length hs ≡ n = length-take-le n gs (omega (arith, long)) in
          let within = enclose-take rows n at at gs around in
          let least = known-least at at hs (omega arith) within in
          let whole : still_to_walk rows at gs ≡ known at hs ++ still_to_walk rows (last_end at hs) (drop n gs) =
          ap (still_to_walk rows at) (sym (take-append-drop n gs)) ∙ known-split at hs (drop n gs) in
          let part : still_to_walk rows at hs ≡ known at hs ++ still_to_walk rows (last_end at hs) [] =
          ap (still_to_walk rows at) (sym (append-nil hs)) ∙ known-split at hs [] in
          ap (λ (todo : List VpdRow). walked_by db source k (record w { todo = todo })) whole ∙
          (rows-behind db source (still_to_walk rows (last_end at hs) (drop n gs)) (still_to_walk rows (last_end at hs) []) k (known at hs) (known-nested at at hs (omega arith) within) w few (omega (arith, many, count, least)) ∙
          ap (λ (todo : List VpdRow). walked_by db source k (record w { todo = todo })) (sym part))

    pub ahead-take : (n at : ℕ) (gs : List RowGroup) → 0 < n → Ahead rows at gs → Ahead rows at (take n gs)
    ahead-take zero at gs some before = absurd (omega (arith, some))
    ahead-take (suc n) at [] some before = before
    ahead-take (suc n) at (g ∷ gs) some before = before

    -- and one less before a value
    pub fewer-suffice : (db : Database) (source : Source) (n k at : ℕ) (gs : List RowGroup) (w : Walking) → Ahead rows at gs → Enclose rows at at gs → length w.values ≤ most_values → 0 < n → most_values ≤ length w.values + n
        → walked_by db source k (record w { todo = still_to_walk rows at gs }) ≡ walked_by db source k (record w { todo = still_to_walk rows at (take n gs) })
    fewer-suffice db source n k at gs w before around few some many = sides (nat_le (length gs) n) refl where
      sides : (b : Bool) → nat_le (length gs) n ≡ b → walked_by db source k (record w { todo = still_to_walk rows at gs }) ≡ walked_by db source k (record w { todo = still_to_walk rows at (take n gs) })
      sides true is = ap (λ (hs : List RowGroup). walked_by db source k (record w { todo = still_to_walk rows at hs })) (sym (take_all n gs (leb-true (length gs) n is)))
      sides false is =
          let long : n < length gs = leb-false (length gs) n is in
          let hs : List RowGroup = take n gs in
          let count : length hs ≡ n = length-take-le n gs (omega (arith, long)) in
          let within = enclose-take rows n at at gs around in
          let least = known-least-more at hs (omega (arith, count, some)) (ahead-take n at gs some before) within in
          let whole : still_to_walk rows at gs ≡ known at hs ++ still_to_walk rows (last_end at hs) (drop n gs) =
          ap (still_to_walk rows at) (sym (take-append-drop n gs)) ∙ known-split at hs (drop n gs) in
          let part : still_to_walk rows at hs ≡ known at hs ++ still_to_walk rows (last_end at hs) [] =
          ap (still_to_walk rows at) (sym (append-nil hs)) ∙ known-split at hs [] in
          ap (λ (todo : List VpdRow). walked_by db source k (record w { todo = todo })) whole ∙
          (rows-behind db source (still_to_walk rows (last_end at hs) (drop n gs)) (still_to_walk rows (last_end at hs) []) k (known at hs) (known-nested at at hs (omega arith) within) w few (omega (arith, many, count, least)) ∙
          ap (λ (todo : List VpdRow). walked_by db source k (record w { todo = todo })) (sym part))

    -- a group that is walked so often that no more values have room behind it may be walked less often
    pub rounds-suffice : (db : Database) (source : Source) (n m k at : ℕ) (gs : List RowGroup) (w : Walking) → 0 < size_at rows at → Enclose rows at (at + 1 + size_at rows at) gs → length w.values ≤ most_values → most_values < length w.values + m
        → walked_by db source k (record w { todo = group_repeated (size_at rows at) n (still_to_walk rows (at + 1) gs) }) ≡ walked_by db source k (record w { todo = group_repeated (size_at rows at) (min n m) (still_to_walk rows (at + 1) gs) })
    rounds-suffice db source n m k at gs w some around few many = sides (nat_le n m) refl where
      sides : (b : Bool) → nat_le n m ≡ b → walked_by db source k (record w { todo = group_repeated (size_at rows at) n (still_to_walk rows (at + 1) gs) }) ≡ walked_by db source k (record w { todo = group_repeated (size_at rows at) (min n m) (still_to_walk rows (at + 1) gs) })
      sides true is =
          let le = leb-true n m is in
          let same : n ≡ min n m = omega (arith, le) in
          ap (λ i. walked_by db source k (record w { todo = group_repeated (size_at rows at) i (still_to_walk rows (at + 1) gs) })) same
      sides false is =
          let s : ℕ = size_at rows at in
          let rest : List VpdRow = still_to_walk rows (at + 1) gs in
          let own : List VpdRow = take s rest in
          let gt = leb-false n m is in
          let less : min n m ≡ m = omega (arith, gt) in
          let here : take s rest ≡ take s (drop (at + 1) rows) = take-still rows at (at + 1) s gs around in
          let le = enclose-length rows at (at + 1 + s) gs around in
          let long : length (take s rest) ≡ s = ap length here ∙ length-take-le s (drop (at + 1) rows) (omega (arith, length-drop (at + 1) rows, le)) in
          let own-nested : Nested (take s rest) = subst Nested (sym here) (nested-take s (drop (at + 1) rows) (group-fits rows nested at) (nested-drop (at + 1) rows nested)) in
          let one = least-some (take s rest) (omega (arith, long, some)) own-nested in
          let least = least-repeat m (take s rest) own-nested one in
          let whole : group_repeated (size_at rows at) n (still_to_walk rows (at + 1) gs) ≡ repeat m own ++ (repeat (n - m) own ++ drop s rest) =
          ap (λ (xs : List VpdRow). xs ++ drop s rest) (repeat-sum m (n - m) n own (omega (arith, gt))) ∙ append_assoc (repeat m own) (repeat (n - m) own) (drop s rest) in
          ap (λ (todo : List VpdRow). walked_by db source k (record w { todo = todo })) whole ∙
          (rows-behind db source (repeat (n - m) own ++ drop s rest) (drop s rest) k (repeat m own) (nested-repeat m own own-nested) w few (omega (arith, many, least)) ∙
          ap (λ i. walked_by db source k (record w { todo = group_repeated s i rest })) (sym less))
