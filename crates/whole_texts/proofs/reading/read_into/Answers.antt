use Rattle.std.proofs.Common.{◌≤◌, ◌<◌, length, arith, length-take}
use Rattle.whole_texts.proofs.Taking.{read-to-end, read-full, taken-more, taken-none}
use Rattle.whole_texts.proofs.reading.read_into.Goals as goal

pub returns-then-count-eq0-clause-told : goal.returns-then-count-eq0-clause-told
returns-then-count-eq0-clause-told g c =
    let few : length c.loop-text.text.items ≤ c.args.most = omega (arith, c.loop-text.text.ok.0, c.loop-text.invariant.most) in
    let count = c.if-count-eq0.true in
    let some : 0 < length c.read.new.buf =
    omega (arith, c.read.auto.buf, length-take c.min-size.result c.loop-text.chunk, c.min-size.ensures, c.len-in-loop-text.ensures, c.len.ensures, c.loop-text-test.true, c.loop-text.invariant.room) in
    let same = rw count at c.in_ok-count.ensures.bytes.0 in
    read-to-end _ _ _ c.loop-text.text.items (taken-none _ _ _ _ c.loop-text.invariant.octets same) (c.in_ok-count.ensures.bytes.1 count some) few

pub returns-then-count-eq0-clause-part : goal.returns-then-count-eq0-clause-part
returns-then-count-eq0-clause-part g c =
    let same = rw c.if-count-eq0.true at c.in_ok-count.ensures.bytes.0 in
    (c.loop-text.text.items, omega (arith, c.loop-text.text.ok.0, c.loop-text.invariant.most), taken-none _ _ _ _ c.loop-text.invariant.octets same)

pub returns-in_err-extend_from_slice-clause-part : goal.returns-in_err-extend_from_slice-clause-part
returns-in_err-extend_from_slice-clause-part g c =
    taken-more _ _ _ _ c.loop-text.text.items _ c.loop-text.invariant.octets c.in_ok-count.ensures.bytes.0
    (omega (arith, c.loop-text.text.ok.0, c.loop-text.invariant.most, c.in_ok-count.ensures.bound.0, c.in_ok-count.ensures.bound.1, c.read.auto.buf, length-take c.min-size.result c.loop-text.chunk, c.min-size.ensures, c.len-in-loop-text.ensures))

pub returns-clause-told : goal.returns-clause-told
returns-clause-told g c =
    read-full _ _ _ c.loop-text.text.items c.loop-text.invariant.octets (omega (arith, c.loop-text.text.ok.0, c.loop-text.invariant.most, c.len.ensures, c.loop-text-test.false))
