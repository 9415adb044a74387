-- The request that a line's form is at a desk among several. [This profile.]
use Rattle.run_model.specs.DeskLines as Spec
use Rattle.desk_lines.specs.Requests.{asked}
use Rattle.panel_lines.specs.declared.request.PanelLine.{PanelLine}
use Rattle.panel_lines.specs.declared.request.PanelLine.TheVariants as request

-- the request that is asked for
abbrev pub panel_asked : PanelLine → Spec.Request
panel_asked request.Take = Spec.Take
panel_asked (request.Plain other) = asked other
