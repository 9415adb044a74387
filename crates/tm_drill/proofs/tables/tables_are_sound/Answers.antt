use Rattle.tm_drill.proofs.SoundTables.{tables_are_sound}
use Rattle.tm_drill.proofs.tables.tables_are_sound.Goals as goal

pub returns : goal.returns
returns c = tables_are_sound
