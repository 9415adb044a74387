use Rattle.std.proofs.Common.{◌≡◌, drop}
use Rattle.tm_io.specs.Files.{file_of, fails_of}
use Rattle.tm_io.proofs.mem_shelf.place_of.Given as goal

abbrev pub invariant-loop-i : goal.invariant-loop-i
invariant-loop-i l = record {
  octets : file_of l.files l.name ≡ file_of (drop l.i l.files) l.name;
  fails : fails_of l.files l.name ≡ fails_of (drop l.i l.files) l.name;
}
