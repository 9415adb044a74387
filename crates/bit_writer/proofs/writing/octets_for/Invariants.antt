use Rattle.std.proofs.Common.{◌≡◌, take}
use Rattle.bit_writer.specs.Writes as Spec
use Rattle.bit_writer.proofs.writing.octets_for.Given as goal

abbrev pub invariant-loop-write : goal.invariant-loop-write
invariant-loop-write l = l.octets ≡ Spec.octets_for l.least (take l.write-index l.writes)
