-- With which code a board ends, by that of its live run and by its screen. [This profile.]
use Rattle.std.specs.Prelude.{Bool, true}
use Rattle.run_model.specs.declared.code.Code.{Code}
use Rattle.run_model.specs.declared.code.Code.TheVariants as live
use Rattle.run_model.specs.declared.code.Input.TheVariants as live_input
use Rattle.page_texts.specs.declared.code.BoardCode.{BoardCode}
use Rattle.page_texts.specs.declared.code.BoardCode.TheVariants as code
use Rattle.page_texts.specs.declared.code.BoardInput.TheVariants as input

-- the code of a board that ends as its live run does
abbrev pub code_of_live : Code → BoardCode
code_of_live live.Ok = code.Ok
code_of_live (live.Usage misuse) = code.Usage misuse
code_of_live (live.BadMib fault) = code.BadMib fault
code_of_live (live.NoFile live_input.Feed) = code.NoFile input.Feed
code_of_live (live.NoFile live_input.Desk) = code.NoFile input.Desk
code_of_live (live.Cut octets) = code.Cut octets
code_of_live live.TablesFault = code.TablesFault
code_of_live live.FeedFault = code.FeedFault
code_of_live live.DeskFault = code.DeskFault
code_of_live live.OutFault = code.OutFault
code_of_live live.ReplyFault = code.ReplyFault
code_of_live live.Limit = code.Limit
code_of_live live.Want = code.Want

-- the code of a board, by that of its live run and by whether its screen failed: the screen's fault goes behind those of output, replies, feed
-- and desk, and before a rest and the limit
abbrev pub code_by : Code → Bool → BoardCode
code_by live.Ok true = code.ScreenFault
code_by (live.Cut octets) true = code.ScreenFault
code_by live.Limit true = code.ScreenFault
code_by c failed = code_of_live c
