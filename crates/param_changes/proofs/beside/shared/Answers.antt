use Rattle.std.proofs.Common.{◌≡◌, ◌∙◌, [], ap, arith, filter, length, sym}
use Rattle.edition_plans.specs.Params.{param_slices}
use Rattle.param_state.specs.ParamPlans.{plan_names}
use Rattle.param_changes.proofs.SharedFacts.{none-beside, slices-same}
use Rattle.param_set.specs.Sharing.{is_new}
use Rattle.param_changes.proofs.beside.shared.Goals as goal

pub returns : goal.returns
returns c =
    let slices = slices-same c.args.same c.requires.kept c.args.old.now c.args.book.now c.requires.same in
    let none : filter (is_new c.args.base.now) (param_slices c.args.book.now) ≡ [] =
    none-beside c.args.same c.requires.kept c.args.old.now c.args.book.now c.requires.same c.args.base.now c.requires.base c.requires.sound in
    record {
      params = c.in_ok-params.ensures ∙ c.requires.base ∙ slices;
      compiled = c.new-compiled.ensures.items ∙ sym (ap plan_names none);
      few = omega (arith, ap length c.new-compiled.ensures.items);
      none = ap length none;
    }

pub returns-in_err-params-clause-none : goal.returns-in_err-params-clause-none
returns-in_err-params-clause-none c =
    ap length (none-beside c.args.same c.requires.kept c.args.old.now c.args.book.now c.requires.same c.args.base.now c.requires.base c.requires.sound)
