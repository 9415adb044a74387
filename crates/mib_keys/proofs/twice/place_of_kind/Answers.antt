use Rattle.std.proofs.Common.{◌∙◌, ap, sym}
use Rattle.mib_model.specs.Drafts.{rows_of}
use Rattle.mib_model.specs.RowTexts.{kind_in}
use Rattle.mib_keys.proofs.TwiceFacts.{no-kind, own-kind}
use Rattle.row_flaws.specs.Indexes.{cut}
use Rattle.mib_keys.proofs.twice.place_of_kind.Goals as goal

pub returns-in-Some : goal.returns-in-Some
returns-in-Some c =
    c.before-in-Some.ensures ∙ ap (cut c.args.place) (c.packet_place.ensures ∙ sym (own-kind c.args.lookups.now c.args.row.now c.in-Some.packet (sym c.from_row.ensures ∙ c.in-Some.is)))

pub returns-in-None : goal.returns-in-None
returns-in-None c =
    ap (cut c.args.place) (sym (no-kind (rows_of c.args.lookups.now (kind_in c.args.row.now)) c.args.row.now (sym c.from_row.ensures ∙ c.in-None.is)))
