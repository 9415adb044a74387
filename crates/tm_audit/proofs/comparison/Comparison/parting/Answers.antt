use Rattle.std.proofs.Common.{◌≡◌, ◌+◌, ◌≤◌, ℕ, [], true, false, Some, cond, drop, length, sym, ap, ◌∙◌, arith}
use Rattle.tm_audit.proofs.CommonFacts.{parts-at-end, parts-nowhere}
use Rattle.tm_audit.specs.Comparing.{Compared, line_of, parting_with}
use Rattle.tm_audit.specs.TextLines.{parting}
use Rattle.tm_audit.proofs.comparison.Comparison.parting.Goals as goal
use Rattle.tm_audit.proofs.comparison.Comparison.parting.Goals.{else-not-self-via-then-not-self+else-self, else-not-self-via-else-not-self}

-- what is known of a comparison by whether it has parted
parted : (k : Compared) → k.is_apart ≡ true → Some (line_of k) ≡ parting_with k []
parted k apart = λ i. cond (sym apart i) (Some (line_of k)) (parting (line_of k) [] (drop k.at k.text))

on : (k : Compared) → k.is_apart ≡ false → parting (line_of k) [] (drop k.at k.text) ≡ parting_with k []
on k together = λ i. cond (sym together i) (Some (line_of k)) (parting (line_of k) [] (drop k.at k.text))

pub returns-then-self : goal.returns-then-self
returns-then-self c =
    let k : Compared = record { text = c.self.inside.text.now; at = c.self.inside.at; is_apart = c.self.inside.is_apart } in
    let is : k ≡ c.args.self.now = c.self.view_is in
    let past : length k.text ≤ k.at = omega (arith, c.if-self.true) in
    sym (parts-nowhere k.text k.at (line_of k) past) ∙ (on k c.if-not-self.true ∙ ap (λ (k : Compared). parting_with k []) is)

pub returns : goal.returns
returns c =
    let k : Compared = record { text = c.self.inside.text.now; at = c.self.inside.at; is_apart = c.self.inside.is_apart } in
    let is : k ≡ c.args.self.now = c.self.view_is in
    let line : 1 + c.feeds.result ≡ line_of k = ap (λ (n : ℕ). 1 + n) c.feeds.ensures.count in
    let end : Some (line_of k) ≡ parting_with k [] =
    elim c.else-not-self.branch [
      | else-not-self-via-then-not-self+else-self w ↦
          sym (parts-at-end k.text k.at (line_of k) (omega (arith, w.if-self.false, c.self.invariant.0))) ∙ on k w.if-not-self.true
      | else-not-self-via-else-not-self w ↦ parted k w.if-not-self.false
    ] in
    ap Some line ∙ (end ∙ ap (λ (k : Compared). parting_with k []) is)
