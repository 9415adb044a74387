-- What the register's histories say of packets, of editions and of their plans. [This profile.]
use Rattle.std.specs.Prelude.{◌≡◌, ℕ, zero, suc, Bool, true, false, List, filter_map, Option, Some, None}
use Rattle.std.specs.List.{All}
use Rattle.histories.specs.History.{IsLegal, state_after}
use Rattle.histories.specs.declared.history.Move.{Move}
use Rattle.run_model.specs.declared.register.Answer.{Answer}
use Rattle.run_model.specs.declared.register.Answer.TheVariants.{Stamped}
use Rattle.run_model.specs.declared.register.Entry.{Entry}
use Rattle.run_model.specs.declared.register.Entry.TheVariants.{Stamp, Add, AddOn}
use Rattle.run_model.specs.declared.register.Register.{Register}
use Rattle.mib_model.specs.declared.database.Database.{Database}
use Rattle.mib_model.specs.Plans.{plans}
use Rattle.run_model.specs.Register.{opening, answer_to, after}

-- a history of the register
abbrev pub RegisterHistory : Type 0
RegisterHistory = List (Move Entry Answer)

-- each reply is the register's, from the opening over one edition on
abbrev pub IsRegisterHistory : Database → RegisterHistory → Type 0
IsRegisterHistory first history = IsLegal answer_to after (opening first) history

-- the register at the end of a history
abbrev pub register_after : Database → RegisterHistory → Register
register_after first history = state_after after (opening first) history

-- the entry of a packet
abbrev pub is_stamp : Entry → Bool
is_stamp Stamp = true
is_stamp other = false

-- seat 0, the intake, makes stamps alone, and no other seat makes one
abbrev pub MayEnter : ℕ → Entry → Type 0
MayEnter zero entry = is_stamp entry ≡ true
MayEnter (suc desk) entry = is_stamp entry ≡ false

-- the number and the edition that a reply gives a packet
abbrev pub stamp_in : Answer → Option (ℕ × ℕ)
stamp_in (Stamped number edition tables) = Some (number, edition)
stamp_in other = None

-- the stamps of a history, in their order
abbrev pub stamps : RegisterHistory → List (ℕ × ℕ)
stamps history = filter_map (λ m. stamp_in m.reply) history

-- an edition is added with the plans of its tables
abbrev pub HasItsPlans : Entry → Type 0
HasItsPlans (Add tables added) = added ≡ plans tables
HasItsPlans (AddOn base tables added) = added ≡ plans tables
HasItsPlans other = Unit {0}

-- each edition that a history adds has the plans of its tables
abbrev pub AddsItsPlans : RegisterHistory → Type 0
AddsItsPlans history = All (λ m. HasItsPlans m.entry) history
