use Rattle.std.proofs.Common.{◌≡◌, ◌∙◌, true, false, ap, not, sym}
use Rattle.mib_model.specs.Touched.{same_slice}
use Rattle.param_plan.specs.Slices.{ParamSlice, as_slice, slice_of}
use Rattle.param_set.proofs.SameFacts.{equal-slices}
use Rattle.param_changes.proofs.BesideFacts.{kept-now, not-other}
use Rattle.param_changes.specs.Beside.{now_of}
use Rattle.param_changes.proofs.beside.other_rows.Goals as goal

pub returns-then-is_kept : goal.returns-then-is_kept
returns-then-is_kept c =
    let slice = slice_of c.args.rows.now in
    let db = c.args.sources.now in
    let all = c.is_kept.ensures c.if-is_kept.true in
    let same : slice ≡ now_of db slice = kept-now c.args.changed.now slice db c.requires all.0 all.1 in
    (same, sym (not-other db slice same))

pub returns-then-same_rows : goal.returns-then-same_rows
returns-then-same_rows c =
    let slice = slice_of c.args.rows.now in
    let db = c.args.sources.now in
    let test : same_slice (as_slice slice) (as_slice (now_of db slice)) ≡ true =
    ap (λ (s : ParamSlice). same_slice (as_slice slice) (as_slice s)) (sym c.in_ok-now.ensures) ∙ sym c.if-same_rows.ensures in
    (equal-slices slice (now_of db slice) test, ap not test)

pub returns-else-same_rows : goal.returns-else-same_rows
returns-else-same_rows c =
    let slice = slice_of c.args.rows.now in
    let db = c.args.sources.now in
    let test : same_slice (as_slice slice) (as_slice (now_of db slice)) ≡ false =
    ap (λ (s : ParamSlice). same_slice (as_slice slice) (as_slice s)) (sym c.in_ok-now.ensures) ∙ sym c.if-same_rows.ensures in
    (c.in_ok-now.ensures, ap not test)
