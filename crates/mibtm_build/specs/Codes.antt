-- The exit statuses of a call that builds, and the lines of its ends. [This profile.]
use Rattle.std.specs.Prelude.{ℕ, List, [], Option, Some, None}
use Rattle.run_model.specs.declared.code.Code.{Code}
use Rattle.run_model.specs.declared.code.Code.TheVariants as plain
use Rattle.run_model.specs.Codes.{code_number}
use Rattle.run_model.specs.Faults.{code_line}
use Rattle.build_rules.specs.Asks.{refused_line}
use Rattle.mibtm_build.specs.declared.code.BuildCode.{BuildCode}
use Rattle.mibtm_build.specs.declared.code.BuildCode.TheVariants as code

-- the code of the other commands that ends a call so too; none of a refusal
abbrev pub plain_code : BuildCode → Option Code
plain_code code.Ok = Some plain.Ok
plain_code (code.Usage misuse) = Some (plain.Usage misuse)
plain_code (code.BadMib fault) = Some (plain.BadMib fault)
plain_code (code.NoFile input) = Some (plain.NoFile input)
plain_code code.TablesFault = Some plain.TablesFault
plain_code code.FeedFault = Some plain.FeedFault
plain_code code.DeskFault = Some plain.DeskFault
plain_code code.OutFault = Some plain.OutFault
plain_code code.ReplyFault = Some plain.ReplyFault
plain_code code.Limit = Some plain.Limit
plain_code code.Want = Some plain.Want
plain_code (code.Refused line fault) = None

-- the number of a code, or that of a refusal
abbrev pub number_or_refused : Option Code → ℕ
number_or_refused (Some c) = code_number c
number_or_refused None = 13

-- the exit status of a call
abbrev pub build_number : BuildCode → ℕ
build_number c = number_or_refused (plain_code c)

-- the line of a code, if there is one
abbrev pub line_of : Option Code → List ℕ
line_of (Some c) = code_line c
line_of None = []

-- the line that is told of a call's end, without its LF; empty where all is well
abbrev pub build_line : BuildCode → List ℕ
build_line (code.Refused line fault) = refused_line line fault
build_line other = line_of (plain_code other)
