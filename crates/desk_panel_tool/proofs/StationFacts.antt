-- Stations that a call left as they were.
use Rattle.std.proofs.Common.{ℕ, List, [], ◌∷◌, Option, refl}
use Rattle.panel_session.specs.declared.station.Station.{Station}
use Rattle.session.specs.Sources.{Files}
use Rattle.desk_panel_tool.specs.Stations.{AreIdle, stations}

-- stations that are the same weren't called
pub idle : {D R : Type 0} (same : List (Station D R)) (holds : D → Option Files) (left : D → Option (List ℕ)) (faults missed : D → ℕ)
    (written handed : R → Option (List ℕ)) (failed : R → ℕ) → AreIdle (stations same same holds left faults missed written handed failed)
idle [] holds left faults missed written handed failed = tt
idle (s ∷ others) holds left faults missed written handed failed =
    (record { desk = refl; replies = refl }, idle others holds left faults missed written handed failed)
