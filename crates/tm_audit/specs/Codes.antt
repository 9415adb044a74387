-- The exit statuses of an audit, the lines of its findings and those of its other ends. [This profile.]
use Rattle.std.specs.Prelude.{ℕ, List, [], ◌++◌, codes, decimal, Option, Some, None}
use Rattle.run_model.specs.declared.code.Code.{Code}
use Rattle.run_model.specs.declared.code.Code.TheVariants as plain
use Rattle.run_model.specs.declared.code.Input.TheVariants as input
use Rattle.run_model.specs.Codes.{code_number}
use Rattle.run_model.specs.Faults.{code_line}
use Rattle.tm_audit.specs.declared.code.AuditCode.{AuditCode}
use Rattle.tm_audit.specs.declared.code.AuditCode.TheVariants as code
use Rattle.tm_audit.specs.declared.code.AuditInput.TheVariants as audit_input

-- the code of a decoding that ends so too; none of an end that an audit alone has
abbrev pub plain_code : AuditCode → Option Code
plain_code (code.Usage misuse) = Some (plain.Usage misuse)
plain_code (code.BadMib fault) = Some (plain.BadMib fault)
plain_code (code.NoFile audit_input.Feed) = Some (plain.NoFile input.Feed)
plain_code (code.NoFile audit_input.Desk) = Some (plain.NoFile input.Desk)
plain_code code.TablesFault = Some plain.TablesFault
plain_code code.FeedFault = Some plain.FeedFault
plain_code code.DeskFault = Some plain.DeskFault
plain_code code.OutFault = Some plain.OutFault
plain_code code.ReplyFault = Some plain.ReplyFault
plain_code code.Limit = Some plain.Limit
plain_code code.Want = Some plain.Want
plain_code other = None

-- the exit status of an end that an audit alone has
abbrev pub own_number : AuditCode → ℕ
own_number (code.NoFile wanted) = 4
own_number (code.Differs line) = 13
own_number (code.NoEdition line count) = 14
own_number code.TextFault = 15
own_number code.Large = 16
own_number other = 0

-- the exit status of an audit
unfoldable pub audit_number : AuditCode → ℕ
audit_number found = elim (plain_code found) [ Some c ↦ code_number c | None ↦ own_number found ]

-- the line of an end that an audit alone has and that is no finding
abbrev pub own_line : AuditCode → List ℕ
own_line (code.NoFile wanted) = codes "NOFILE TEXT"
own_line code.TextFault = codes "FAULT TEXT"
own_line other = []

-- the line that is told of an audit's end, without its LF; empty where the end is a finding
unfoldable pub audit_line : AuditCode → List ℕ
audit_line found = elim (plain_code found) [ Some c ↦ code_line c | None ↦ own_line found ]

-- the line that is written of a finding, with its LF; of another end none is
unfoldable pub finding_text : AuditCode → List ℕ
finding_text code.Same = codes "SAME\n"
finding_text (code.Differs line) = codes "DIFFERS " ++ decimal line ++ codes "\n"
finding_text (code.NoEdition line count) = codes "NOEDITION " ++ decimal line ++ codes " COUNT " ++ decimal count ++ codes "\n"
finding_text code.Large = codes "LARGE\n"
finding_text other = []
