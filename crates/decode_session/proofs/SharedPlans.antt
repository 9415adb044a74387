-- The plans of an edition may be read by several threads, and may go to another.
use denote.Param.Send.{IsSend, IsSync, sendable}
use Rattle.std.proofs.Crossing.{crosses}
use Rattle.std.proofs.MapsCrossing.{crosses as map_crosses}
use Rattle.check_plan.specs.contracts.checks.Checks as Checks
use Rattle.ident_plan.specs.contracts.ident.Ident as Ident
use Rattle.param_plan.specs.contracts.blocks.Block as Block
use Rattle.param_plan.specs.contracts.choice.Choice as Choice
use Rattle.param_plan.specs.contracts.param.Param as Param
use Rattle.param_plan.specs.contracts.params.Params as Params
use Rattle.param_plan.specs.contracts.rows.ParamRows as Rows

choice-sync : IsSync Choice.the_row
choice-sync = search (crosses, sendable) depth 60 fits 20000

choice-send : IsSend Choice.the_row
choice-send = search (crosses, sendable) depth 60 fits 20000

checks-sync : IsSync Checks.the_row
checks-sync = search (crosses, sendable) depth 60 fits 20000

checks-send : IsSend Checks.the_row
checks-send = search (crosses, sendable) depth 60 fits 20000

rows-sync : IsSync Rows.the_row
rows-sync = search (crosses, sendable) depth 60 fits 20000

rows-send : IsSend Rows.the_row
rows-send = search (crosses, sendable) depth 60 fits 20000

param-sync : IsSync Param.the_row
param-sync = search (rows-sync, choice-sync, checks-sync, crosses, sendable) depth 60 fits 20000

param-send : IsSend Param.the_row
param-send = search (rows-send, choice-send, checks-send, crosses, sendable) depth 60 fits 20000

block-sync : IsSync Block.the_row
block-sync = search (param-send, param-sync, crosses, sendable) depth 60 fits 20000

block-send : IsSend Block.the_row
block-send = search (param-send, param-sync, crosses, sendable) depth 60 fits 20000

pub params-sync : IsSync Params.the_row
params-sync = search (block-send, block-sync, crosses, sendable) depth 60 fits 20000

pub params-send : IsSend Params.the_row
params-send = search (block-send, block-sync, crosses, sendable) depth 60 fits 20000

pub ident-sync : IsSync Ident.the_row
ident-sync = search (map_crosses, crosses, sendable) depth 60 fits 20000

pub ident-send : IsSend Ident.the_row
ident-send = search (map_crosses, crosses, sendable) depth 60 fits 20000
