use Rattle.std.proofs.Common.{◌+◌, ◌∙◌, Bool, Option, Some, None, ℕ, ap, arith, length, rules, sym, if◌then◌else◌}
use Rattle.std.proofs.lemmas.List.{drop_all, length-map}
use Rattle.std.specs.Option.{option_or}
use Rattle.mib_model.specs.declared.rows.Row.{Row}
use Rattle.mib_model.specs.Drafts.{rows_of}
use Rattle.mib_model.specs.Keys.{key_in}
use Rattle.mib_index.proofs.PlaceFacts.{position-more}
use Rattle.mib_keys.specs.Alike.{key_eq}
use Rattle.mib_keys.specs.Firsts.{first_in, flaw_at}
use Rattle.mib_keys.proofs.FlawFacts.{kind-first, row-at, row-found, row-passed}
use Rattle.mib_keys.proofs.soundness.table_flaw.Goals as goal

pub loop-place-init : goal.loop-place-init
loop-place-init g c = (kind-first c.args.lookups.now g.R.TableRow.kind, search rules)

pub loop-place-preserved : goal.loop-place-preserved
loop-place-preserved g c =
    let db = c.args.lookups.now in
    let all = rows_of db g.R.TableRow.kind in
    let place = c.loop-place.place in
    let row = g.R.TableRow.as_row c.index-rows-place.result in
    let at = row-at g.R.TableRow.as_row c.args.rows.now all place c.index-rows-place.result c.requires.rows c.loop-place-test.true c.index-rows-place.is in (
      c.loop-place.invariant.0 ∙ row-passed (flaw_at db) all place row at.0 at.1 (sym c.in_default.is ∙ c.in_ok-flaw.ensures.flaw),
      λ q.
          let p : Row → Bool = λ r. key_eq (key_in r) q in
          let seen : Option ℕ → Option ℕ = λ before. option_or before (if p row then Some place else None) in
          c.in_ok-flaw.ensures.seen q ∙ ap seen (c.loop-place.invariant.1 q) ∙ sym (position-more all place row p at.0 at.1),
    )

pub returns-in-Some : goal.returns-in-Some
returns-in-Some g c =
    let db = c.args.lookups.now in
    let all = rows_of db g.R.TableRow.kind in
    let place = c.loop-place.place in
    let row = g.R.TableRow.as_row c.index-rows-place.result in
    let at = row-at g.R.TableRow.as_row c.args.rows.now all place c.index-rows-place.result c.requires.rows c.loop-place-test.true c.index-rows-place.is in
    sym (c.loop-place.invariant.0 ∙ row-found (flaw_at db) all place row c.in-Some.flaw at.0 at.1 (sym c.in-Some.is ∙ c.in_ok-flaw.ensures.flaw))

pub returns : goal.returns
returns g c =
    let db = c.args.lookups.now in
    let all = rows_of db g.R.TableRow.kind in
    let place = c.loop-place.place in
    let long = length-map c.args.rows.now g.R.TableRow.as_row in
    let same = ap length c.requires.rows in
    sym (c.loop-place.invariant.0 ∙ ap (first_in (flaw_at db) (place + 1)) (drop_all place all (omega (arith, c.loop-place-test.false, long, same))))
