-- The code that each answer inside a call is. [This profile.]
use Rattle.std.specs.Prelude.{Result, Ok, Err}
use Rattle.run_model.specs.declared.code.Code.{Code}
use Rattle.run_model.specs.declared.code.Code.TheVariants as code
use Rattle.decode_session.specs.declared.ending.Stop.{Stop}
use Rattle.decode_session.specs.declared.ending.Stop.TheVariants as stop
use Rattle.decode_session.specs.declared.ending.RunEnd.{RunEnd}
use Rattle.decode_session.specs.declared.ending.RunFault.{RunFault}
use Rattle.decode_session.specs.declared.ending.RunFault.TheVariants as fault
use Rattle.live_session.specs.Codes.{code_of_end}

-- the code of a stop
abbrev pub code_of_stop : Stop → Code
code_of_stop stop.Memory = code.Want
code_of_stop stop.Out = code.OutFault

-- the code of a run's fault
abbrev pub code_of_fault : RunFault → Code
code_of_fault fault.Feed = code.FeedFault
code_of_fault (fault.Print stop) = code_of_stop stop

-- the code of a run
abbrev pub code_of_run : Result RunEnd RunFault → Code
code_of_run (Ok end) = code_of_end end
code_of_run (Err fault) = code_of_fault fault
