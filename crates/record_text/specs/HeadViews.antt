-- Packets by what is told of them. [This profile.]
use Rattle.std.specs.Prelude.{Bool, true, false}
use Rattle.mib_model.specs.declared.packet.Found.{Found}
use Rattle.mib_model.specs.declared.packet.Found.TheVariants as found

-- whether a packet has a SPID
abbrev pub is_identified : Found → Bool
is_identified (found.Spid spid service subtype tpsd dfhsize) = true
is_identified other = false
