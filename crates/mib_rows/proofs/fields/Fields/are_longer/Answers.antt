use Rattle.std.proofs.Common.{◌<◌, ◌≤◌, length, arith}
use Rattle.mib_rows.proofs.LongFacts.{longer-end, longer-here, longer-next}
use Rattle.mib_rows.proofs.fields.Fields.are_longer.Goals as goal

pub returns-then-octets-room : goal.returns-then-octets-room
returns-then-octets-room c =
    let inside : c.loop-at.at < length c.args.self.now = omega arith in
    longer-here c.args.most c.loop-at.room c.args.self.now c.loop-at.at c.nth-octets.result.now inside c.nth-octets.ensures c.loop-at.invariant c.if-octets-room.true

pub loop-at-preserved : goal.loop-at-preserved
loop-at-preserved c =
    let inside : c.loop-at.at < length c.args.self.now = omega arith in
    longer-next c.args.most c.loop-at.room c.args.self.now c.loop-at.at c.nth-octets.result.now inside c.nth-octets.ensures c.loop-at.invariant c.if-octets-room.false

pub returns : goal.returns
returns c =
    let past : length c.args.self.now ≤ c.loop-at.at = omega arith in
    longer-end c.args.most c.loop-at.room c.args.self.now c.loop-at.at past c.loop-at.invariant
