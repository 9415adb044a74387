use Rattle.std.proofs.Common.{◌≡◌, ◌+◌, drop, take}
use Rattle.std.specs.HashMap.{get}
use Rattle.mib_model.specs.Drafts.{rows_of}
use Rattle.mib_model.specs.Points.{first_of}
use Rattle.mib_model.specs.Soundness.{flaws_of}
use Rattle.mib_keys.specs.Alike.{AreKeyPlaces, key_eq}
use Rattle.mib_keys.specs.Firsts.{flaw_at, first_in}
use Rattle.mib_keys.proofs.soundness.table_flaw.Given as goal

abbrev pub invariant-loop-place : goal.invariant-loop-place
invariant-loop-place g l =
    let all = rows_of l.lookups g.R.TableRow.kind in
    (first_of (flaws_of l.lookups g.R.TableRow.kind) ≡ first_in (flaw_at l.lookups) (l.place + 1) (drop l.place all)) × AreKeyPlaces (get key_eq l.seen) (take l.place all)
