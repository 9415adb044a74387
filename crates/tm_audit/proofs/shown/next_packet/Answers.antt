use Rattle.std.proofs.Common.{◌≡◌, ◌∙◌, ℕ, List, [], ◌∷◌, ap, refl, sym, true}
use Rattle.tm_audit.proofs.ShownFacts.{shown-none, shown-other, shown-packet}
use Rattle.tm_audit.proofs.LineFacts.{no-lines}
use Rattle.tm_audit.specs.Shown as Spec
use Rattle.tm_audit.specs.TextLines.{text_lines}
use Rattle.tm_audit.proofs.shown.next_packet.Goals as goal

-- what is shown from a line on that begins a record
shown : (count edition : ℕ) (whole : Spec.Editions) (lines : List (List ℕ)) (line : List ℕ) (more : List (List ℕ)) → whole ≡ Spec.editions_shown count edition lines
    → lines ≡ line ∷ more → Spec.begins_packet line ≡ true → whole ≡ Spec.with_edition edition (Spec.editions_shown count edition more)
shown count edition whole lines line more so parts is =
    so ∙ (ap (λ (l : List (List ℕ)). Spec.editions_shown count edition l) parts ∙ shown-packet count edition line more is)

pub returns-then-begins_packet-clause-edition : goal.returns-then-begins_packet-clause-edition
returns-then-begins_packet-clause-edition c =
    let is = c.begins_packet.ensures in
    sym (ap (λ (s : Spec.Editions). Spec.edition_at s 0) (shown _ _ _ _ _ _ c.loop-line.invariant c.in-Some.ensures.lines (sym is ∙ c.if-begins_packet.true)))

pub returns-then-begins_packet-clause-behind : goal.returns-then-begins_packet-clause-behind
returns-then-begins_packet-clause-behind c =
    let is = c.begins_packet.ensures in
    sym (ap Spec.behind_first (shown _ _ _ _ _ _ c.loop-line.invariant c.in-Some.ensures.lines (sym is ∙ c.if-begins_packet.true)))

pub loop-line-preserved : goal.loop-line-preserved
loop-line-preserved c =
    let is = c.begins_packet.ensures in
    let edition = c.edition_behind-edition.ensures in
    c.loop-line.invariant ∙ (ap (λ (l : List (List ℕ)). Spec.editions_shown c.args.count c.loop-line.edition l) c.in-Some.ensures.lines
    ∙ (shown-other c.args.count c.loop-line.edition _ _ (sym is ∙ c.if-begins_packet.false)
    ∙ ap (λ (e : ℕ). Spec.editions_shown c.args.count e (text_lines c.in-Some.behind.now)) (sym edition)))

-- what is shown where no line is left
none : (count edition : ℕ) (whole : Spec.Editions) (lines : List (List ℕ)) → whole ≡ Spec.editions_shown count edition lines → lines ≡ []
    → whole ≡ record { each = []; last = edition }
none count edition whole lines so is = so ∙ (ap (λ (l : List (List ℕ)). Spec.editions_shown count edition l) is ∙ shown-none count edition)

pub returns-clause-edition : goal.returns-clause-edition
returns-clause-edition c = sym (ap (λ (s : Spec.Editions). Spec.edition_at s 0) (none _ _ _ _ c.loop-line.invariant c.in_default.ensures.none))

pub returns-clause-behind : goal.returns-clause-behind
returns-clause-behind c =
    ap (λ (l : List (List ℕ)). Spec.editions_shown c.args.count c.loop-line.edition l) (no-lines [] refl)
    ∙ (shown-none c.args.count c.loop-line.edition ∙ sym (ap Spec.behind_first (none _ _ _ _ c.loop-line.invariant c.in_default.ensures.none)))
