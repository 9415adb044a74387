-- Laws of the register of editions.
use Rattle.std.specs.Prelude.{◌≡◌, ℕ, ◌<◌, List, ◌++◌, map, filter_map, length}
use Rattle.std.specs.List.{range_with_len}
use Rattle.histories.specs.History.{Permits, calls_of}
use Rattle.run_model.specs.declared.register.Entry.{Entry}
use Rattle.run_model.specs.declared.register.Register.{Register}
use Rattle.mib_model.specs.declared.database.Database.{Database}
use Rattle.run_model.specs.Register.{after, edition_for}
use Rattle.run_model.specs.RegisterHistories.{RegisterHistory, IsRegisterHistory, MayEnter, stamp_in, stamps}

-- an entry leaves the editions as they are, or appends to them
abbrev pub EditionsOnlyGrow : Type 0
EditionsOnlyGrow = (s : Register) (e : Entry) → (more : List Database) × ((after s e).editions ≡ s.editions ++ more)

-- the numbers of the stamps are 1, 2, 3 and so on
abbrev pub StampsCountUp : Type 0
StampsCountUp =
    (first : Database) (history : RegisterHistory) → IsRegisterHistory first history →
    map (λ s. s.0) (stamps history) ≡ range_with_len 1 (length (stamps history))

-- an entry doesn't change the edition of a packet below the next one
abbrev pub WhatIsStampedStays : Type 0
WhatIsStampedStays = (s : Register) (e : Entry) (n : ℕ) → n < s.next → edition_for (after s e) n ≡ edition_for s n

-- the stamps of a permitted history are those that the answers of seat 0 show
abbrev pub SeatShowsStamps : Type 0
SeatShowsStamps =
    (first : Database) (history : RegisterHistory) → IsRegisterHistory first history → Permits MayEnter history →
    stamps history ≡ filter_map (λ call. stamp_in call.1) (calls_of 0 history)
