use Rattle.std.proofs.Common.{◌∙◌, refl, sym}
use Rattle.edition_diff.proofs.RowFacts.{equal-ident}
use Rattle.edition_diff.proofs.ident.same_ident.Goals as goal

pub returns-then-all_same-clause-equal : goal.returns-then-all_same-clause-equal
returns-then-all_same-clause-equal c = λ holds.
    let pids = sym c.pid.ensures.rows ∙ (c.if-all_same.ensures.equal refl ∙ c.pid-2.ensures.rows) in
    let pics = sym c.pic.ensures.rows ∙ (c.all_same-then-all_same.ensures.equal holds ∙ c.pic-then-all_same.ensures.rows) in
    equal-ident c.args.old.now c.args.new.now pids pics
