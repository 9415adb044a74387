use Rattle.std.proofs.Common.{◌∙◌, sym}
use Rattle.mib_model.specs.declared.kind.Kind.TheVariants as kind
use Rattle.mib_model.specs.Kinds.{kinds}
use Rattle.mib_model.specs.Points.{first_of}
use Rattle.mib_model.specs.Soundness.{first_flaw, flaws_of}
use Rattle.mib_keys.proofs.FlawFacts.{over-tables, over-found, over-passed}
use Rattle.mib_keys.proofs.beside.new_flaw.Goals as goal

pub loop-kind-init : goal.loop-kind-init
loop-kind-init c = over-tables c.args.book.now

pub returns-in-Some : goal.returns-in-Some
returns-in-Some c =
    let db = c.args.book.now in
    over-found (λ k. first_of (flaws_of db k)) kinds c.loop-kind.kind-index kind.Pcf c.loop-kind-test.true (first_flaw db) c.loop-kind.invariant c.in-Some.flaw (sym c.in-Some.is ∙ c.in_ok-flaw.ensures)

pub loop-kind-preserved : goal.loop-kind-preserved
loop-kind-preserved c =
    let db = c.args.book.now in
    over-passed (λ k. first_of (flaws_of db k)) kinds c.loop-kind.kind-index kind.Pcf c.loop-kind-test.true (first_flaw db) c.loop-kind.invariant (sym c.in_default.is ∙ c.in_ok-flaw.ensures)
