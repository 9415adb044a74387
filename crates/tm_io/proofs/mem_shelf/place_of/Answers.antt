use Rattle.std.proofs.Common.{arith, ◌<◌, length, sym}
use Rattle.tm_io.proofs.FileFacts.{file_of-found, fails_of-found}
use Rattle.tm_io.proofs.mem_shelf.place_of.Goals as goal

pub returns-then-eq-clause-octets : goal.returns-then-eq-clause-octets
returns-then-eq-clause-octets c =
    let lt : c.loop-i.i < length c.args.files.now = omega arith in
    (lt, file_of-found c.args.files.now c.loop-i.i c.index-files-i.result c.args.name.now lt c.index-files-i.is (rw c.as_str.ensures.value at (sym c.if-eq.ensures)) c.loop-i.invariant.octets)

pub returns-then-eq-clause-fails : goal.returns-then-eq-clause-fails
returns-then-eq-clause-fails c =
    let lt : c.loop-i.i < length c.args.files.now = omega arith in
    fails_of-found c.args.files.now c.loop-i.i c.index-files-i.result c.args.name.now lt c.index-files-i.is (rw c.as_str.ensures.value at (sym c.if-eq.ensures)) c.loop-i.invariant.fails
