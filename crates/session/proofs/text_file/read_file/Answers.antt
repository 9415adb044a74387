use Rattle.std.proofs.Common.{inl}
use Rattle.std.proofs.lemmas.Result.{err_from_is_err_and}
use Rattle.session.proofs.TextFiles.{not_held}
use Rattle.whole_texts.proofs.PartFacts.{ends-in-part, part-of-file, part-of-none}
use Rattle.session.proofs.text_file.read_file.Goals as goal

pub returns-in_err-found-clause-part : goal.returns-in_err-found-clause-part
returns-in_err-found-clause-part g c =
    let p = err_from_is_err_and c.from_residual.result c.from_residual.ensures.1 in
    rw p.1 (inl (c.in_err-found.ensures.missed.later, c.in_err-found.ensures.missed.failed))

pub returns-then-not-found-clause-told : goal.returns-then-not-found-clause-told
returns-then-not-found-clause-told g c = not_held (g.T.Source.holds c.args.shelf.now) c.args.name.now c.new.result.items c.in_ok-found.found c.new.ensures.items c.if-not-found.true c.in_ok-found.ensures.held

pub returns-then-not-found-clause-part : goal.returns-then-not-found-clause-part
returns-then-not-found-clause-part g c =
    part-of-none _ (g.T.Source.holds c.args.shelf.now) c.args.name.now c.in_ok-found.found _ c.if-not-found.true c.in_ok-found.ensures.held

pub returns-clause-part : goal.returns-clause-part
returns-clause-part g c =
    ends-in-part c.read_part.result _ (g.T.Source.holds c.args.shelf.now) c.args.name.now _ _ _
    (part-of-file _ (g.T.Source.holds c.args.shelf.now) c.args.name.now _ _ c.in_ok-found.ensures.left c.read_part.ensures.part)
