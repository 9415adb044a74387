-- The codes of faults that end an audit. [This profile.]
use Rattle.script_tables.specs.declared.script.ScriptFault.{ScriptFault}
use Rattle.script_tables.specs.declared.script.ScriptFault.TheVariants as scripts
use Rattle.tm_audit.specs.declared.code.AuditCode.{AuditCode}
use Rattle.tm_audit.specs.declared.code.AuditCode.TheVariants as code

-- the code of a fault of a script
abbrev pub code_of_script : ScriptFault → AuditCode
code_of_script scripts.Failed = code.DeskFault
code_of_script scripts.Memory = code.Want
