-- The numbers and texts of faults, and the lines of codes. [This profile.]
use Rattle.std.specs.Prelude.{ℕ, List, [], ◌++◌, codes, decimal, ◌==◌, if◌then◌else◌}
use Rattle.run_model.specs.declared.code.Code.{Code}
use Rattle.run_model.specs.declared.code.Code.TheVariants as code
use Rattle.run_model.specs.declared.code.Input.{Input}
use Rattle.run_model.specs.declared.code.Input.TheVariants as input
use Rattle.run_model.specs.declared.code.Misuse.{Misuse}
use Rattle.run_model.specs.declared.code.Misuse.TheVariants as misuse
use Rattle.mib_model.specs.declared.fault.MibCode.{MibCode}
use Rattle.mib_model.specs.declared.fault.MibCode.TheVariants as fault
use Rattle.mib_model.specs.declared.fault.MibFault.{MibFault}
use Rattle.mib_model.specs.Kinds.{kind_name}

-- the number of a fault
abbrev pub fault_number : MibCode → ℕ
fault_number fault.Mark = 1
fault_number fault.LineLong = 2
fault_number fault.Rows = 3
fault_number fault.FewFields = 4
fault_number fault.BadNumber = 5
fault_number fault.BadCode = 6
fault_number fault.BadName = 7
fault_number fault.Twice = 8
fault_number fault.NoRef = 9
fault_number fault.BadType = 10
fault_number fault.Points = 11
fault_number fault.Group = 12
fault_number fault.Width = 13
fault_number fault.Both = 14
fault_number fault.Big = 15

-- the word of a fault
abbrev pub fault_word : MibCode → List ℕ
fault_word fault.Mark = codes "MARK"
fault_word fault.LineLong = codes "LINELONG"
fault_word fault.Rows = codes "ROWS"
fault_word fault.FewFields = codes "FEWFIELDS"
fault_word fault.BadNumber = codes "BADNUMBER"
fault_word fault.BadCode = codes "BADCODE"
fault_word fault.BadName = codes "BADNAME"
fault_word fault.Twice = codes "TWICE"
fault_word fault.NoRef = codes "NOREF"
fault_word fault.BadType = codes "BADTYPE"
fault_word fault.Points = codes "POINTS"
fault_word fault.Group = codes "GROUP"
fault_word fault.Width = codes "WIDTH"
fault_word fault.Both = codes "BOTH"
fault_word fault.Big = codes "BIG"

-- a number behind a space, and nothing for 0
abbrev pub number_behind : ℕ → List ℕ
number_behind n = if n == 0 then [] else codes " " ++ decimal n

-- the text of a fault: table, row and word, and then the column or the first row, where there is one
unfoldable pub fault_text : MibFault → List ℕ
fault_text f =
    kind_name f.table ++ codes " " ++ decimal f.row ++ codes " " ++ fault_word f.code ++ number_behind f.column ++ number_behind f.first

-- the line of a misuse
abbrev pub misuse_text : Misuse → List ℕ
misuse_text misuse.Command = codes "USAGE COMMAND"
misuse_text misuse.Words = codes "USAGE WORDS"

-- the line of an input that isn't there
abbrev pub input_text : Input → List ℕ
input_text input.Feed = codes "NOFILE FEED"
input_text input.Desk = codes "NOFILE DESK"

-- the line of a code, without its line feed; empty where all is well
unfoldable pub code_line : Code → List ℕ
code_line code.Ok = []
code_line (code.Usage misuse) = misuse_text misuse
code_line (code.BadMib f) = codes "BADMIB " ++ fault_text f
code_line (code.NoFile i) = input_text i
code_line (code.Cut octets) = codes "CUT " ++ decimal octets
code_line code.TablesFault = codes "FAULT TABLES"
code_line code.FeedFault = codes "FAULT FEED"
code_line code.DeskFault = codes "FAULT DESK"
code_line code.OutFault = codes "FAULT OUT"
code_line code.ReplyFault = codes "FAULT REPLIES"
code_line code.Limit = codes "LIMIT"
code_line code.Want = codes "MEMORY"
