-- What the lookups say of a database. [This profile.]
use Rattle.std.specs.Prelude.{◌≡◌, ℕ, map, pos}
use Rattle.std.specs.HashMap.{get}
use Rattle.mib_model.specs.Structures.{structure}
use Rattle.row_flaws.specs.declared.points.PointKey.{PointKey}
use Rattle.row_flaws.specs.declared.lookups.Lookups.TheInside.{Inside}
use Rattle.row_flaws.specs.Indexes.{first_place}
use Rattle.row_flaws.specs.Points.{point_eq, point_in}
use Rattle.row_flaws.specs.Structures.{spot_of, spots_at}

-- the packets are those of the database, and each map has, at each key, the first place or the rows that have it
pub record Known (l : Inside) : Type 0 where
  pub packets : l.packets ≡ l.index.now.pid
  pub packet_kinds : l.packet_kinds ≡ l.index.now.pid
  pub point_places : (q : PointKey) → get point_eq l.point_places q ≡ first_place point_eq (point_in l.index.now.caf) l.index.now.cap q
  pub structures : (q : ℕ) → spots_at l.structures q ≡ map spot_of (structure l.index.now (pos q))
