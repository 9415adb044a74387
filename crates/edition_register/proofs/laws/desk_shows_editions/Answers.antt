use Rattle.edition_register.proofs.RegisterFacts.{desk-shows}
use Rattle.edition_register.proofs.laws.desk_shows_editions.Goals as goal

pub returns : goal.returns
returns c = desk-shows
