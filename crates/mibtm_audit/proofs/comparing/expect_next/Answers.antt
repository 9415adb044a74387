use Rattle.std.proofs.Common.{refl, take}
use Rattle.mibtm_audit.proofs.FoundFacts.{counted-on, few-underway, reached}
use Rattle.mibtm_audit.proofs.RunFacts.{cut-so, ended-so, parted-so}
use Rattle.mibtm_audit.proofs.comparing.expect_next.Goals as goal

pub returns-then-is_apart-clause-comes : goal.returns-then-is_apart-clause-comes
returns-then-is_apart-clause-comes g c a packets stands =
    parted-so a packets c.args.audit.now _ _ c.found.result c.found.ensures stands refl (λ more. c.is_apart.ensures.apart more c.if-is_apart.true)

pub expect_packet-requires-clause-few : goal.expect_packet-requires-clause-few
expect_packet-requires-clause-few g c = few-underway c.args.audit.now c.requires.underway (c.is_apart.ensures.together c.if-is_apart.false)

pub returns-in-Ok-clause-comes : goal.returns-in-Ok-clause-comes
returns-in-Ok-clause-comes g c a packets stands =
    let (fits, is, consumed, header) = c.in-Packet.ensures.gives in record {
      packet = take c.in-Packet.octets c.next.new.into;
      is_packet = is;
      reached = reached a packets c.args.audit.now stands (c.is_apart.ensures.together c.if-is_apart.false);
      consumed = consumed;
      stands = c.in-Ok.ensures.stands a packets stands;
    }

pub returns-in-Ok-clause-counted : goal.returns-in-Ok-clause-counted
returns-in-Ok-clause-counted g c = (
  few-underway c.args.audit.now c.requires.underway (c.is_apart.ensures.together c.if-is_apart.false),
  counted-on c.args.audit.now c.expect_packet.new.self _ c.requires.underway c.in-Ok.ensures.stands,
)

pub returns-in-Err-clause-comes : goal.returns-in-Err-clause-comes
returns-in-Err-clause-comes g c a packets stands =
    let (fits, is, consumed, header) = c.in-Packet.ensures.gives in record {
      packet = take c.in-Packet.octets c.next.new.into;
      is_packet = is;
      reached = reached a packets c.args.audit.now stands (c.is_apart.ensures.together c.if-is_apart.false);
      consumed = consumed;
    }

pub returns-in-End-clause-comes : goal.returns-in-End-clause-comes
returns-in-End-clause-comes g c a packets stands =
    ended-so a packets c.args.audit.now _ _ c.found-in-End.result c.found-in-End.ensures stands (c.is_apart.ensures.together c.if-is_apart.false) c.in-End.ensures.gives.0 c.in-End.ensures.gives.1

pub returns-in-Cut-clause-comes : goal.returns-in-Cut-clause-comes
returns-in-Cut-clause-comes g c a packets stands =
    cut-so a packets c.args.audit.now c.expect_rest.new.self _ _ c.found-in-Cut.result c.in-Cut.octets c.found-in-Cut.ensures c.expect_rest.ensures stands
    (c.is_apart.ensures.together c.if-is_apart.false) c.in-Cut.ensures.gives

pub returns-in-Failed-clause-comes : goal.returns-in-Failed-clause-comes
returns-in-Failed-clause-comes g c a packets stands =
    let (rest, none, consumed) = c.in-Failed.ensures.gives in
    (rest, record { reached = reached a packets c.args.audit.now stands (c.is_apart.ensures.together c.if-is_apart.false); begins_none = none; consumed = consumed })
