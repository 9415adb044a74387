use Rattle.std.proofs.Common.{◌≡◌, take}
use Rattle.tm_audit.proofs.comparison.common_octets.Given as goal

abbrev pub invariant-loop-k : goal.invariant-loop-k
invariant-loop-k l = take l.k l.text ≡ take l.k l.other
