use Rattle.std.proofs.Common.{false}
use Rattle.desk_lines.specs.Requests.{asked}
use Rattle.desk.specs.State.{desk_of}
use Rattle.desk.proofs.HandlingFacts.{handled-line}
use Rattle.desk.proofs.desk.Desk.line.Goals as goal

pub returns-clause-handles : goal.returns-clause-handles
returns-clause-handles g c = handled-line false 1 (asked c.request_of.result) c.args.line.now (desk_of c.args.self.now) _ _ _ _ c.request_of.ensures c.handle.ensures.handles
