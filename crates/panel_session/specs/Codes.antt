-- The gravest of the ends of several desks. [This profile.]
use Rattle.std.specs.Prelude.{List, Option, Some, None}
use Rattle.std.specs.List.{fold}
use Rattle.live_desk.specs.declared.desk_end.DeskEnd.{DeskEnd}
use Rattle.live_desk.specs.declared.desk_end.DeskEnd.TheVariants as end
use Rattle.panel_session.specs.declared.side.DeskSide.{DeskSide}

-- the graver of two: failed replies go before a failed script, and a failed script before the other ends
abbrev pub graver : DeskEnd → DeskEnd → DeskEnd
graver end.ReplyFault other = end.ReplyFault
graver end.DeskFault end.ReplyFault = end.ReplyFault
graver end.DeskFault other = end.DeskFault
graver worst other = other

-- the gravest, with that of one desk more, where it has ended
abbrev pub with_end : DeskEnd → Option DeskEnd → DeskEnd
with_end worst None = worst
with_end worst (Some e) = graver worst e

-- that of all desks
abbrev pub gravest : List DeskSide → DeskEnd
gravest sides = fold (λ worst side. with_end worst side.end) end.Done sides
