use Rattle.first_rows.specs.ByNumbers.{AreFree}
use Rattle.first_rows.proofs.fast.ByNumber.with_room.Given as goal

abbrev pub invariant-loop : goal.invariant-loop
invariant-loop g l = AreFree l.places.items
