use Rattle.std.proofs.Common.{ℤ, ◌≤ℤ◌, subst, sym}
use Rattle.mib_model.specs.WholeNumbers.{greatest_raw, least_raw}
use Rattle.row_records.proofs.NumberFacts.{raw-lies}
use Rattle.row_records.proofs.telling.lies.Goals as goal

pub returns-clause-low : goal.returns-clause-low
returns-clause-low c =
    subst (λ (z : ℤ). least_raw ≤ℤ z) (sym c.requires.number) (raw-lies c.args.value.now.shape c.width-width.ensures.encoding c.args.packet.now c.args.value.now.at).0

pub returns-clause-high : goal.returns-clause-high
returns-clause-high c =
    subst (λ (z : ℤ). z ≤ℤ greatest_raw) (sym c.requires.number) (raw-lies c.args.value.now.shape c.width-width.ensures.encoding c.args.packet.now c.args.value.now.at).1
