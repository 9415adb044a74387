-- Rooms that are out. [This project's own.]
use Rattle.std.specs.Prelude.{◌≡◌, ℕ}
use Rattle.decode_session.specs.declared.stock.Home.{Home}
use Rattle.packet_feed.specs.declared.feed.TheConstants.{PACKET_SIZE}

-- the frames of so many packets are out, of those for so many
abbrev pub AreOutOf : ℕ → ℕ → Home → Type 0
AreOutOf rooms count home = home.frames ≡ record { pieces = rooms; size = PACKET_SIZE; out = count }
