use Rattle.std.proofs.Common.{◌≡◌, ◌∙◌, ap, subst, sym}
use Rattle.std.specs.HashMap.{get}
use Rattle.std.specs.List.{position}
use Rattle.mib_model.specs.declared.rows.Row.{Row}
use Rattle.mib_model.specs.Drafts.{rows_of}
use Rattle.mib_model.specs.RowTexts.{kind_in}
use Rattle.mib_keys.specs.Alike.{has_its_key, has_its_kind, key_eq}
use Rattle.mib_keys.proofs.FlawFacts.{position-or}
use Rattle.mib_keys.proofs.TwiceFacts.{cut-least, is-first, none-left, own-place}
use Rattle.row_flaws.specs.Indexes.{cut}
use Rattle.mib_keys.proofs.twice.earlier.Goals as goal

pub returns-clause-earlier : goal.returns-clause-earlier
returns-clause-earlier g c =
    let r = g.R.TableRow.as_row c.args.row.now in
    let place = c.args.place in
    let all = rows_of c.args.lookups.now (kind_in r) in
    let key : c.in_ok-of_key.of_key ≡ cut place (position (has_its_key r) all) =
    c.in_ok-of_key.ensures.earlier ∙ own-place (get key_eq c.args.seen.now) all place r c.requires in
    let kind : c.place_of_kind-of_kind.result ≡ cut place (position (has_its_kind r) all) =
    subst (λ (one : Row). c.place_of_kind-of_kind.result ≡ cut place (position (has_its_kind one) (rows_of c.args.lookups.now (kind_in one)))) c.to_row.ensures c.place_of_kind-of_kind.ensures in
    c.least.ensures ∙ (rw (key, kind) (sym (cut-least place (position (has_its_key r) all) (position (has_its_kind r) all))) ∙ ap (cut place) (sym (position-or (has_its_key r) (has_its_kind r) all)))

pub returns-clause-first : goal.returns-clause-first
returns-clause-first g c = λ none.
    let r = g.R.TableRow.as_row c.args.row.now in
    let db = c.args.lookups.now in
    is-first db c.args.place r
    (sym (own-place (get key_eq c.args.seen.now) (rows_of db (kind_in r)) c.args.place r c.requires)
    ∙ (sym c.in_ok-of_key.ensures.earlier ∙ none-left c.in_ok-of_key.of_key c.place_of_kind-of_kind.result (sym c.least.ensures ∙ none)))
