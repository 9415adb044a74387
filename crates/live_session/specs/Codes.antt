-- With which code a live run ends, by the ends of its two sides. [This profile.]
use Rattle.std.specs.Prelude.{Result, Ok, Err}
use Rattle.decode_session.specs.declared.ending.RunEnd.{RunEnd}
use Rattle.decode_session.specs.declared.ending.RunEnd.TheVariants as run_end
use Rattle.decode_session.specs.declared.ending.RunFault.{RunFault}
use Rattle.decode_session.specs.declared.ending.RunFault.TheVariants as fault
use Rattle.live_desk.specs.declared.desk_end.DeskEnd.{DeskEnd}
use Rattle.live_desk.specs.declared.desk_end.DeskEnd.TheVariants as desk_end
use Rattle.run_model.specs.declared.code.Code.{Code}
use Rattle.run_model.specs.declared.code.Code.TheVariants as code

-- the code of an intake that nothing hindered
abbrev pub code_of_end : RunEnd → Code
code_of_end run_end.Whole = code.Ok
code_of_end (run_end.Cut octets) = code.Cut octets
code_of_end run_end.Limit = code.Limit

-- the code, where the feed failed, by the end of the desk
abbrev pub code_of_feed : DeskEnd → Code
code_of_feed desk_end.ReplyFault = code.ReplyFault
code_of_feed other = code.FeedFault

-- the code, where nothing hindered the intake, by the end of the desk
abbrev pub code_of_desk : RunEnd → DeskEnd → Code
code_of_desk end desk_end.ReplyFault = code.ReplyFault
code_of_desk end desk_end.DeskFault = code.DeskFault
code_of_desk end desk_end.Done = code_of_end end
code_of_desk end desk_end.Limit = code_of_end end

-- the code of a run whose two sides ended so
abbrev pub code_by : Result RunEnd RunFault → DeskEnd → Code
code_by (Err (fault.Print stop)) desk = code.OutFault
code_by (Err fault.Feed) desk = code_of_feed desk
code_by (Ok end) desk = code_of_desk end desk
