-- The reply of a desk among several. [This profile.]
use Rattle.run_model.specs.Desk.{DeskReply, Plain, Stale, Took}
use Rattle.panel_lines.specs.declared.reply.PanelReply.{PanelReply}
use Rattle.panel_lines.specs.declared.reply.PanelReply.TheVariants as reply

-- the reply that is told
abbrev pub told : PanelReply → DeskReply
told (reply.Plain other) = Plain other
told (reply.Stale newest) = Stale newest
told (reply.Took edition) = Took edition
