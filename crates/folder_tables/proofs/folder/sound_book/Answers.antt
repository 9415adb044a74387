use Rattle.std.proofs.lemmas.Result.{err_from_is_err_and}
use Rattle.folder_tables.proofs.LoadSteps.{refused_sound, refused_unread, told_sound}
use Rattle.folder_tables.proofs.folder.sound_book.Goals as goal

pub returns-in_err-book-clause-refused : goal.returns-in_err-book-clause-refused
returns-in_err-book-clause-refused g c =
    let p = err_from_is_err_and c.from_residual.result c.from_residual.ensures.1 in
    rw (p.1, p.2) (refused_unread (g.T.Source.holds c.args.tables.now) c.args.folder.now c.in_err-book.field-0.0 c.in_err-book.ensures.refused)

pub returns-clause-told : goal.returns-clause-told
returns-clause-told g c =
    told_sound (g.T.Source.holds c.args.tables.now) c.args.folder.now c.in_ok-book.book c.accept.result c.in_ok-book.ensures.told c.accept.ensures.told

pub returns-clause-refused : goal.returns-clause-refused
returns-clause-refused g c =
    refused_sound (g.T.Source.holds c.args.tables.now) c.args.folder.now c.in_ok-book.book c.accept.result c.in_ok-book.ensures.told c.accept.ensures.refused
