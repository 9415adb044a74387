use Rattle.std.proofs.Common.{◌≡◌, ◌++◌, ℕ, List, false, sym, ap, ◌∙◌}
use Rattle.tm_audit.proofs.CommonFacts.{expects}
use Rattle.tm_audit.specs.Comparing.{Compared, parting_with}
use Rattle.tm_audit.proofs.comparison.Comparison.expect.Goals as goal

pub returns : goal.returns
returns c more =
    let rest = c.octets_from.ensures in
    let k = c.common_octets-common.result in
    let text : List ℕ = c.self.inside.text.now in
    let is : record { text = text; at = c.self.inside.at; is_apart = c.self.inside.is_apart } ≡ c.args.self.now = c.self.view_is in
    let together : c.self.inside.is_apart ≡ false = c.if-self.false in
    expects text c.args.piece.now more c.self.inside.at k
    (rw rest at c.common_octets-common.ensures.front) (rw rest at c.common_octets-common.ensures.text) c.common_octets-common.ensures.other
    (rw rest at c.common_octets-common.ensures.apart)
    ∙ ((λ i. parting_with (record { text = text; at = c.self.inside.at; is_apart = sym together i }) (c.args.piece.now ++ more))
    ∙ ap (λ (k : Compared). parting_with k (c.args.piece.now ++ more)) is)
