use Rattle.std.proofs.Common.{ℕ, ◌≤◌, List, Bool, not, take, filter, length, refl, arith, length-take, Some}
use Rattle.std.proofs.lemmas.List.Filters.{length-filter_both}
use Rattle.std.specs.Option.{option_eq}
use Rattle.row_groups.proofs.row_groups.counts.Goals as goal

-- of some rows no more pass than there are
at-most : {R : Type 0} (p : R → Bool) (i : ℕ) (rows : List R) → i ≤ length rows → length (filter p (take i rows)) ≤ i
at-most p i rows within = omega (arith, length-filter_both p (λ row. not (p row)) (λ row. refl) (take i rows), length-take i rows)

pub count-requires : goal.count-requires
count-requires g c = λ key.
    omega (arith, c.loop-row.invariant key, at-most (λ row. option_eq g.B.Key.PartialEq.eq (g.B.By.key_of row) (Some key)) c.loop-row.row-index c.args.rows.now (omega arith))
