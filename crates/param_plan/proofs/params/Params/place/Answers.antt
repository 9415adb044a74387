use Rattle.std.proofs.Common.{◌≡◌, ◌∙◌, ◌<◌, ◌+◌, ◌-◌, ◌/◌, ◌≤◌, ℕ, Equal, Greater, Less, List, Ordering, ap, arith, flat_map, get_or, length, subst, sym}
use Rattle.std.proofs.lemmas.List.{get_or_default, length-map}
use Rattle.std.proofs.lemmas.Nat.{div_below}
use Rattle.std.specs.Arc.{arc_value}
use Rattle.std.specs.Cmp.Lexicographic.{slice_cmp}
use Rattle.std.specs.Ordering.{nat_cmp}
use Rattle.param_plan.specs.Names.{Ascend}
use Rattle.param_plan.specs.Plain.{is_plain}
use Rattle.param_plan.specs.Slices.{ParamSlice}
use Rattle.param_plan.proofs.NameFacts.{greater-behind, less-before, place-between, place-of-tied}
use Rattle.param_plan.proofs.params.Params.place.Goals as goal

-- the name of a slice
abbrev key : ParamSlice → List ℕ
key slice = slice.pcf.name

-- how the plan at a place compares
at-place : (slices : List ParamSlice) (m : ℕ) (name own : List ℕ) (x : ParamSlice) (r : Ordering) → m < length slices → x ≡ get_or slices m x → own ≡ x.pcf.name
    → r ≡ slice_cmp nat_cmp own name → (d : ParamSlice) → slice_cmp nat_cmp (key (get_or slices m d)) name ≡ r
at-place slices m name own x r below is named cmp d =
    ap (λ (s : ParamSlice). slice_cmp nat_cmp s.pcf.name name) (get_or_default slices m d x below ∙ sym is) ∙ ap (λ (n : List ℕ). slice_cmp nat_cmp n name) (sym named) ∙ sym cmp

pub loop-low-init : goal.loop-low-init
loop-low-init c =
    let long = ap length c.self.view_is in
    let marks = ap length c.self.invariant.2 in
    let many = length-map (flat_map arc_value c.self.inside.blocks.items) is_plain in
    record {
      within = (omega arith, omega (arith, c.len-high.ensures, long, marks, many));
      less = λ k d below. absurd (omega (arith, below));
      greater = λ k d past below. absurd (omega (arith, past, below, c.len-high.ensures, long, marks, many));
    }

pub plan-requires : goal.plan-requires
plan-requires c =
    let half = div_below (c.loop-low.high - c.loop-low.low) 2 (c.loop-low.high - c.loop-low.low) (omega arith) (omega (arith, c.loop-low-test.true)) in
    omega (arith, half, c.loop-low-test.true, c.loop-low.invariant.within.1)

pub loop-low-preserved-in-Less : goal.loop-low-preserved-in-Less
loop-low-preserved-in-Less c =
    let slices = c.args.self.now in
    let m : ℕ = c.loop-low.low + (c.loop-low.high - c.loop-low.low) / 2 in
    let half = div_below (c.loop-low.high - c.loop-low.low) 2 (c.loop-low.high - c.loop-low.low) (omega arith) (omega (arith, c.loop-low-test.true)) in
    let below : m < length slices = omega (arith, half, c.loop-low-test.true, c.loop-low.invariant.within.1) in
    let here = at-place slices m c.args.name c.name.result (arc_value c.plan.result.now) Less below c.plan.ensures (c.name.ensures ∙ ap key c.deref.ensures) (sym c.in-Less.is ∙ c.cmp.ensures) in
    record {
      within = (omega (arith, half, c.loop-low-test.true), c.loop-low.invariant.within.1);
      less = λ k d before. less-before key c.args.name slices (subst Ascend c.self.view_is c.self.invariant.0) m k d (omega (arith, before)) below (here d);
      greater = c.loop-low.invariant.greater;
    }

pub loop-low-preserved : goal.loop-low-preserved
loop-low-preserved c =
    let slices = c.args.self.now in
    let m : ℕ = c.loop-low.low + (c.loop-low.high - c.loop-low.low) / 2 in
    let half = div_below (c.loop-low.high - c.loop-low.low) 2 (c.loop-low.high - c.loop-low.low) (omega arith) (omega (arith, c.loop-low-test.true)) in
    let below : m < length slices = omega (arith, half, c.loop-low-test.true, c.loop-low.invariant.within.1) in
    let here = at-place slices m c.args.name c.name.result (arc_value c.plan.result.now) Greater below c.plan.ensures (c.name.ensures ∙ ap key c.deref.ensures) (sym c.in-Greater.is ∙ c.cmp.ensures) in
    record {
      within = (omega arith, omega (arith, below));
      less = c.loop-low.invariant.less;
      greater = λ k d behind within. greater-behind key c.args.name slices (subst Ascend c.self.view_is c.self.invariant.0) m k d behind within (here d);
    }

pub returns-in-Equal : goal.returns-in-Equal
returns-in-Equal c =
    let slices = c.args.self.now in
    let m : ℕ = c.loop-low.low + (c.loop-low.high - c.loop-low.low) / 2 in
    let half = div_below (c.loop-low.high - c.loop-low.low) 2 (c.loop-low.high - c.loop-low.low) (omega arith) (omega (arith, c.loop-low-test.true)) in
    let below : m < length slices = omega (arith, half, c.loop-low-test.true, c.loop-low.invariant.within.1) in
    let here = at-place slices m c.args.name c.name.result (arc_value c.plan.result.now) Equal below c.plan.ensures (c.name.ensures ∙ ap key c.deref.ensures) (sym c.in-Equal.is ∙ c.cmp.ensures) in
    sym (place-of-tied key c.args.name slices (subst Ascend c.self.view_is c.self.invariant.0) m below here)

pub returns : goal.returns
returns c =
    let past : c.loop-low.high ≤ c.loop-low.low = omega (arith, c.loop-low-test.false) in
    sym (place-between key c.args.name c.args.self.now c.loop-low.low c.loop-low.invariant.less (λ k d behind below. c.loop-low.invariant.greater k d (omega (arith, past, behind)) below))
