-- The exit statuses of the tool. [This profile.]
use Rattle.std.specs.Prelude.{ℕ}
use Rattle.run_model.specs.declared.code.Code.{Code}
use Rattle.run_model.specs.declared.code.Code.TheVariants as code

-- the number of a code
abbrev pub code_number : Code → ℕ
code_number code.Ok = 0
code_number (code.Usage misuse) = 2
code_number (code.BadMib fault) = 3
code_number (code.NoFile input) = 4
code_number (code.Cut octets) = 5
code_number code.TablesFault = 6
code_number code.FeedFault = 7
code_number code.DeskFault = 8
code_number code.OutFault = 9
code_number code.ReplyFault = 10
code_number code.Limit = 11
code_number code.Want = 12
