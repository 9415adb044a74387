-- Laws of memories that are alike.
use Rattle.std.specs.Prelude.{◌≡◌, ℕ, Bool, true, List}
use Rattle.mib_model.specs.declared.database.Database.{Database}
use Rattle.mib_model.specs.declared.packet.Value.{Value}
use Rattle.mib_model.specs.Finish.{all_finished}
use Rattle.mib_model.specs.Kept.{Memory, all_entered}
use Rattle.memory_laws.specs.Alike.{AreAlike, CoversAll, TellAlike, all_entered_if}

-- memories stay alike where all raw numbers are entered in one, and in the other those whose names are asked
abbrev pub EnteredAlike : Type 0
EnteredAlike =
    (asked : List ℕ → Bool) (m n : Memory) (vs : List Value) → AreAlike asked m n → AreAlike asked (all_entered m vs) (all_entered_if asked n vs)

-- alike memories tell the same of values, and are alike behind them
abbrev pub FinishedAlike : Type 0
FinishedAlike =
    (asked : List ℕ → Bool) (db : Database) (m n : Memory) (vs : List Value) → CoversAll asked db vs → AreAlike asked m n →
    TellAlike asked (all_finished db m vs) (all_finished db n vs)

-- what is alike to what the values of a packet leave of one memory is so for each that is alike to it, and the same is told
abbrev pub AlikeServes : Type 0
AlikeServes =
    (asked : List ℕ → Bool) (db : Database) (m n after : Memory) (vs : List Value) → CoversAll asked db vs → AreAlike asked m n →
    AreAlike asked (all_finished db (all_entered n vs) vs).0 after →
    TellAlike asked (all_finished db (all_entered m vs) vs) (after, (all_finished db (all_entered n vs) vs).1)

-- where all names are asked, memories that are alike are the same
abbrev pub AlikeIsSame : Type 0
AlikeIsSame = (asked : List ℕ → Bool) (m n : Memory) → ((name : List ℕ) → asked name ≡ true) → AreAlike asked m n → m ≡ n
