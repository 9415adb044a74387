-- What is carried of a parameter, by the slices of its plans.
use Rattle.std.proofs.Common.{◌≡◌, ◌∙◌, ℕ, Bool, true, false, cond, ◌&&◌, List, Option, Some, None, refl, sym, ap, arith}
use Rattle.std.specs.Cmp.Lexicographic.{pointwise}
use Rattle.mib_model.specs.declared.database.Database.{Database}
use Rattle.mib_model.specs.declared.rows.OcfRow.{OcfRow}
use Rattle.mib_model.specs.declared.rows.OcpRow.{OcpRow}
use Rattle.mib_model.specs.Carry.{check_of, is_carried, carry, run_for, same_check, stays}
use Rattle.mib_model.specs.Kept.{Kept, Memory, nothing_kept}
use Rattle.mib_model.specs.Parameters.{parameter}
use Rattle.mib_model.specs.SameRows.{same_ocp}
use Rattle.param_plan.specs.Slices.{ParamSlice}
use Rattle.param_state.specs.ParamPlans.{IsSliceOf, is_same_slice}

pub limits-same : (same : OcpRow → OcpRow → Bool) (xs ys : List OcpRow) → ((x y : OcpRow) → same x y ≡ same_ocp x y) → pointwise same xs ys ≡ pointwise same_ocp xs ys
limits-same same xs ys each = λ i. pointwise (λ x y. each x y i) xs ys

-- whether what is kept stays, by the slices
pub carried-same : (before after : Database) (name : List ℕ) (s t : ParamSlice) → IsSliceOf before name s → IsSliceOf after name t → is_same_slice s t ≡ is_carried before after name
unfolding is_carried
carried-same before after name s t is was = λ i.
    stays (sym is.row i) (sym was.row i) && same_check (is.ocf i) (was.ocf i) && pointwise same_ocp (is.ocps i) (was.ocps i)

hold-none : (check : Option OcfRow) → run_for check 0 ≡ 0
hold-none None = refl
hold-none (Some row) = omega arith

-- of a name of which nothing was kept nothing is carried
pub carry-nothing : (memory : Memory) (before after : Database) (name : List ℕ) → memory name ≡ nothing_kept → carry memory before after name ≡ nothing_kept
unfolding carry
carry-nothing memory before after name none = go (is_carried before after name) where
  held : record (memory name) { run = run_for (check_of after name) (memory name).run } ≡ nothing_kept
  held = ap (λ (k : Kept). record k { run = run_for (check_of after name) k.run }) none ∙ ap (λ (n : ℕ). record nothing_kept { run = n }) (hold-none (check_of after name))

  go : (b : Bool) → cond b (record (memory name) { run = run_for (check_of after name) (memory name).run }) nothing_kept ≡ nothing_kept
  go true = held
  go false = refl

-- of a parameter that differs nothing is carried
pub carry-other : (memory : Memory) (before after : Database) (name : List ℕ) → is_carried before after name ≡ false → carry memory before after name ≡ nothing_kept
unfolding carry
carry-other memory before after name other = rw other refl

-- all that was kept of a parameter that is the same is carried, with its run held
pub carry-same : (memory : Memory) (before after : Database) (name : List ℕ) (kept : Kept) (check : Option OcfRow) → is_carried before after name ≡ true → kept ≡ memory name → check ≡ check_of after name
    → record kept { run = run_for check kept.run } ≡ carry memory before after name
unfolding carry
carry-same memory before after name kept check same is row = rw same (λ i. record (is i) { run = run_for (row i) (is i).run })
