use Rattle.std.proofs.Common.{◌≡◌, ℕ, IfSome, List, Option, ap, subst}
use Rattle.tm_audit.specs.Saved.{saved_tables}
use Rattle.script_tables.proofs.ScriptFacts.{script-saved}
use Rattle.script_tables.proofs.script.saved_books.Goals as goal

pub returns-clause-told : goal.returns-clause-told
returns-clause-told g c =
    subst (λ (left : Option (List ℕ)). IfSome left (λ octets. c.into_saved.result.items ≡ saved_tables c.args.first octets))
    (ap (λ s. g.D.Source.left s.now) c.new-reader.ensures.source)
    (script-saved _ c.args.first c.in_ok-saving.saving c.follow_all.new.saving _ c.into_saved.result.items c.in_ok-saving.ensures c.new-reader.ensures.start c.still_at_start.ensures c.into_saved.ensures.saved
    c.in_ok-follow_all.ensures.followed)
