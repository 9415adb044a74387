use denote.Param.Send.{IsSync, sendable}
use Rattle.decode_session.proofs.SharedPlans.{ident-sync, params-sync}
use Rattle.part_tests.proofs.runs.run.Goals as goal
use Rattle.part_tests.specs.contracts.runs.Bare as Bare

bare-sync : IsSync Bare.the_row
bare-sync = search (ident-sync, params-sync, sendable) depth 20

pub decode_run-requires-sync-P : goal.decode_run-requires-sync-P
decode_run-requires-sync-P g c κs = λ lts. search (bare-sync, sendable) depth 9
