-- The law of packets that are unknown.
use Rattle.std.specs.Prelude.{◌≡◌, ◌↔◌, ℕ, true, List, Some, None}
use Rattle.std.specs.List.{find}
use Rattle.mib_model.specs.declared.database.Database.{Database}
use Rattle.mib_model.specs.declared.packet.Found.TheVariants.{Unknown}
use Rattle.mib_model.specs.Match.{agrees, criterion, discriminants, is_well_formed, match_of, service_of, subtype_of}

-- a well-formed packet is unknown exactly where no row of pid agrees with it and its discriminants
abbrev pub UnknownWithoutARow : Type 0
UnknownWithoutARow =
    (db : Database) (packet : List ℕ) (values : ℕ × ℕ) →
    is_well_formed (match_of db packet) ≡ true → discriminants packet (criterion db.pic packet) ≡ Some values →
    (match_of db packet ≡ Unknown (service_of packet) (subtype_of packet)) ↔ (find (agrees packet values) db.pid ≡ None)
