use Rattle.std.proofs.Common.{rules, ◌≡◌, Bool, ◌&&◌, not, int_lt, ap, ◌∙◌, ◌==◌}
use Rattle.std.proofs.lemmas.Bool.{ne_eqb}
use Rattle.mib_model.specs.Letters.{letter}
use Rattle.check_plan.proofs.CalmFacts.{narrowed-by}
use Rattle.check_plan.specs.Calms.{is_in}
use Rattle.check_plan.proofs.limit.Limit.narrowed.Goals as goal

pub returns : goal.returns
returns c count =
    let limit = c.args.self.now in
    let low = limit.has_low && int_lt count limit.low in
    let high = limit.has_high && int_lt limit.high count in
    let raised : is_in c.raised-raised.result count ≡ (is_in c.args.calm count && not low) = search (rules, c.raised-raised.ensures count) in
    let lowered : is_in c.lowered.result count ≡ (is_in c.raised-raised.result count && not high) = search (rules, c.lowered.ensures count) in
    lowered ∙ (ap (λ (m : Bool). m && not high) raised ∙
    narrowed-by (limit.sort == letter "D") low high (is_in c.args.calm count) (ne_eqb limit.sort (letter "D") c.if-self-eq68.false))
