-- What contracts see of a desk among several. [This profile.]
use Rattle.run_model.specs.Desk.{DeskState}
use Rattle.desk.specs.Drafts.{state_by}
use Rattle.panel_desk.specs.declared.panel_desk.PanelDesk.{PanelDesk}

-- its state: the draft, the tables that it was made from, and the edition that these are
abbrev pub panel_state : PanelDesk → DeskState
panel_state desk = state_by desk.edition desk.draft
