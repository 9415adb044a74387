-- What a call that puts a row answers. [This profile.]
use Rattle.std.specs.Prelude.{Bool, true, false}
use Rattle.mib_tables.specs.declared.table.Put.{Put}
use Rattle.mib_tables.specs.declared.table.Put.TheVariants.{Added, Replaced}

-- replaced where a row had the key, and added where none had it
abbrev pub put_made : Bool → Put
put_made true = Replaced
put_made false = Added
