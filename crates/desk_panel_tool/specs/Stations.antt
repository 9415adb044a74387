-- The stations of a panel before a call and behind it. [This profile.]
use Rattle.std.specs.Prelude.{ℕ, List, map, Option}
use Rattle.std.specs.List.{AllByRecursion, zip}
use Rattle.panel_session.specs.declared.station.Station.{Station}
use Rattle.session.specs.Sources.{Files}
use Rattle.tool_objects.specs.Objects.{IsUncalled, IsUnwritten, ShelfView, SinkView, shelf, sink}

-- a station: its desk, and the sink of its replies
pub record StationView (D R : Type 0) : Type 0 where
  pub desk : ShelfView D
  pub replies : SinkView R

-- a station that wasn't called
pub record IsIdle {D R : Type 0} (s : StationView D R) : Type 0 where
  pub desk : IsUncalled s.desk
  pub replies : IsUnwritten s.replies

-- no station was called
abbrev pub AreIdle : {D R : Type 0} → List (StationView D R) → Type 0
AreIdle stations = AllByRecursion (λ s. IsIdle s) stations

-- stations before and now
abbrev pub stations : {D R : Type 0} → List (Station D R) → List (Station D R) → (D → Option Files) → (D → Option (List ℕ)) → (D → ℕ) → (D → ℕ)
    → (R → Option (List ℕ)) → (R → Option (List ℕ)) → (R → ℕ) → List (StationView D R)
stations before now holds left faults missed written handed failed =
    map (λ s. record { desk = shelf s.0.desk s.1.desk holds left faults missed; replies = sink s.0.replies s.1.replies written handed failed }) (zip before now)
