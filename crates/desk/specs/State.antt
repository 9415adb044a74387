-- What contracts see of a desk. [This profile.]
use Rattle.std.specs.Prelude.{List, map}
use Rattle.std.specs.Arc.{arc_value}
use Rattle.mib_model.specs.declared.database.Database.{Database}
use Rattle.run_model.specs.Desk.{DeskState}
use Rattle.desk.specs.declared.desk.Desk.{Desk}
use Rattle.desk.specs.Drafts.{state_by}

-- its state: the draft, the tables that it was made from, and the edition that these are
abbrev pub desk_of : Desk → DeskState
desk_of desk = state_by desk.edition desk.draft

-- the tables of the editions of which it has handles
abbrev pub editions_of : Desk → List Database
editions_of desk = map (λ handle. arc_value handle) desk.editions.items
