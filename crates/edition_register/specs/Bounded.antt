-- The register with the activations alone that a packet to come may need. [This profile.]
use Rattle.std.specs.Prelude.{◌≡◌, ℕ, ◌<◌, ◌==◌, if◌then◌else◌, ◌≤◌, ◌+◌, List, [], ◌∷◌, ◌++◌, length, filter, not, ◌↔◌}
use Rattle.histories.specs.History.{IsLegal, state_after}
use Rattle.mib_model.specs.declared.database.Database.{Database}
use Rattle.run_model.specs.declared.register.Answer.{Answer}
use Rattle.run_model.specs.declared.register.Answer.TheVariants.{Used}
use Rattle.run_model.specs.declared.register.Entry.{Entry}
use Rattle.run_model.specs.declared.register.Entry.TheVariants.{Stamp, Use, UseFrom}
use Rattle.run_model.specs.declared.register.Register.{Register}
use Rattle.run_model.specs.declared.register.Scheduled.{Scheduled}
use Rattle.run_model.specs.Register.{opening, answer_to, after, edition_for, is_pending, most_pending, pending}
use Rattle.run_model.specs.RegisterHistories.{RegisterHistory, IsRegisterHistory, register_after}

-- the last item alone, or none
abbrev pub last_alone : {X : Type 0} → List X → List X
last_alone [] = []
last_alone (x ∷ []) = x ∷ []
last_alone (x ∷ y ∷ more) = last_alone (y ∷ more)

-- the register without what no packet to come needs: of the activations that aren't pending the last one stays
abbrev pub bounded : Register → Register
bounded s = record s { schedule = last_alone (filter (λ pair. not (is_pending s pair)) s.schedule) ++ pending s }

-- the state after an entry, bounded
abbrev pub bounded_after : Register → Entry → Register
bounded_after s e = bounded (after s e)

-- a machine that bounds its state after each entry has the register's histories, and ends in its bounded state
abbrev pub BoundedServes : Type 0
BoundedServes =
    (first : Database) (history : RegisterHistory) →
    (IsLegal answer_to bounded_after (opening first) history ↔ IsRegisterHistory first history)
    × (state_after bounded_after (opening first) history ≡ bounded (register_after first history))

-- the bounded state has at most the activation in use and those that may be pending
abbrev pub FewActivations : Type 0
FewActivations = (first : Database) (history : RegisterHistory) → length (state_after bounded_after (opening first) history).schedule ≤ most_pending + 1

-- one activation is in use, from a packet before the next, and behind it stand those that are pending
pub record IsKept (s : Register) : Type 0 where
  pub used : Scheduled
  pub schedule : s.schedule ≡ used ∷ pending s
  pub before : used.from < s.next

-- the edition of the next packet: that of the first pending activation where it begins with this packet, else the one in use
abbrev pub edition_of : ℕ → Scheduled → List Scheduled → ℕ
edition_of next used [] = used.edition
edition_of next used (first ∷ more) = if first.from == next then first.edition else used.edition

-- the bounded state begins with the activation in use, and gives the next packet the edition that its activations tell
abbrev pub KeepsOneInUse : Type 0
KeepsOneInUse =
    (first : Database) (history : RegisterHistory) →
    let s = state_after bounded_after (opening first) history in
    (kept : IsKept s) × (edition_for s s.next ≡ edition_of s.next kept.used (pending s))

-- the first pending activation comes in use where it begins with the packet
abbrev pub begun : ℕ → Scheduled → List Scheduled → Scheduled × List Scheduled
begun packet used [] = (used, [])
begun packet used (first ∷ more) = if first.from == packet then (first, more) else (used, first ∷ more)

-- the activation in use and those that are pending after an entry and its answer
abbrev pub kept_after : ℕ → Scheduled → List Scheduled → Entry → Answer → Scheduled × List Scheduled
kept_after next used waiting Stamp answer = begun next used waiting
kept_after next used waiting (Use e) (Used k) = (used, record { from = k; edition = e } ∷ [])
kept_after next used waiting (UseFrom e from) (Used k) = (used, waiting ++ record { from = k; edition = e } ∷ [])
kept_after next used waiting entry answer = (used, waiting)

-- an entry makes of the activations in a bounded state what `kept_after` tells
abbrev pub MovesKept : Type 0
MovesKept =
    (first : Database) (history : RegisterHistory) (e : Entry) →
    let s = state_after bounded_after (opening first) history in
    (kept : IsKept s) → let moved = kept_after s.next kept.used (pending s) e (answer_to s e) in (bounded_after s e).schedule ≡ moved.0 ∷ moved.1
