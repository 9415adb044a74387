use Rattle.std.proofs.Common.{rules}
use Rattle.tm_drill.proofs.CountFacts.{packet-tested}
use Rattle.tm_drill.proofs.counts.is_packet.Goals as goal

pub returns-then-is_head : goal.returns-then-is_head
returns-then-is_head c = packet-tested c.args.line.now c.args.spid _ c.requires (search rules) c.ends_with.ensures.value
