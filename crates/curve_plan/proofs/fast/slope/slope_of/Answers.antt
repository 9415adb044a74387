use Rattle.std.proofs.Common.{◌≡◌, ◌∙◌, ◌-ℤ◌, pos, sym, to_z, of_z, arith}
use Rattle.std.specs.Int.{w64}
use Rattle.std.proofs.lemmas.Int.{ints}
use Rattle.mib_model.specs.Decimals.{with_sign}
use Rattle.curve_plan.specs.Slopes.{rise_of}
use Rattle.curve_plan.proofs.fast.slope.slope_of.Goals as goal

pub returns-in-Ok : goal.returns-in-Ok
returns-in-Ok c =
    let s = c.slope_by.result in
    let x : to_z w64 (of_z w64 c.in_ok-x.x) ≡ c.in_ok-x.x = omega (arith, ints) in
    let first : to_z w64 (of_z w64 c.in_ok-x.first) ≡ c.in_ok-x.first = omega (arith, ints) in
    let last : to_z w64 (of_z w64 c.in_ok-x.last) ≡ c.in_ok-x.last = omega (arith, ints) in
    let at : s.x ≡ c.args.p.x = c.slope_by.ensures.x ∙ (x ∙ c.in_ok-x.ensures.0) in
    let from : s.y ≡ c.args.p.y.count = c.slope_by.ensures.y ∙ (first ∙ c.in_ok-x.ensures.1) in
    let rise : c.args.q.y.count -ℤ c.args.p.y.count ≡ with_sign s.falls (rise_of s) =
    rw (last ∙ c.in_ok-x.ensures.2, first ∙ c.in_ok-x.ensures.1) at c.slope_by.ensures.rise in
    let up : c.args.q.x -ℤ c.args.p.x ≡ pos c.abs_diff.result = grind (arith, ints, c.abs_diff.ensures) in
    let length : c.slope_by.result.run ≡ c.abs_diff.result = c.slope_by.ensures.run ∙ c.in-Ok.ensures.1 in
    record {
      line = record {
        some = grind (arith, ints, up, length);
        rest = omega (arith, c.slope_by.ensures.rest, c.slope_by.ensures.run);
        short = omega (arith, length, c.in-Ok.ensures.0);
        small = c.slope_by.ensures.small;
        low = grind (arith, ints, rise, from, c.in_ok-x.ensures.2);
        high = grind (arith, ints, rise, from, c.in_ok-x.ensures.2);
      };
      x = sym at;
      y = sym from;
      run = rw (sym length) at up;
      rise = rise;
      word = grind (arith, ints, c.in_ok-x.ensures.1);
    }
