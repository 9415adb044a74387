use Rattle.std.proofs.Common.{◌≡◌, ◌∙◌, ℕ, List, None, false, cond, drop, ap, sym, Some}
use Rattle.tm_audit.proofs.PartFacts.{parts-itself}
use Rattle.tm_audit.specs.Comparing.{Compared, line_of, parting_with}
use Rattle.tm_audit.specs.TextLines.{parting}
use Rattle.tm_audit.proofs.comparison.Comparison.is_apart.Goals as goal

-- what is left of the text goes on with all that was expected
goes-on : (k : Compared) → k.is_apart ≡ false → (more : List ℕ) × (parting_with k more ≡ None)
goes-on k together = (
  drop k.at k.text,
  (λ i. cond (together i) (Some (line_of k)) (parting (line_of k) (drop k.at k.text) (drop k.at k.text)))
      ∙ parts-itself (line_of k) (drop k.at k.text),
)

pub returns-clause-together : goal.returns-clause-together
returns-clause-together c is =
    goes-on c.args.self.now (sym (ap (λ (k : Compared). k.is_apart) c.self.view_is) ∙ is)
