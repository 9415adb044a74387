-- What is told beside a value: its tail and the change of its alarm. [This profile.]
use Rattle.std.specs.Prelude.{ℕ, List, Option}
use Rattle.mib_model.specs.declared.check.Change.{Change}
use Rattle.mib_model.specs.declared.packet.Ended.{Ended}
use Rattle.mib_model.specs.declared.packet.Found.{Found}
use Rattle.mib_model.specs.declared.packet.Value.{Value}
use Rattle.mib_model.specs.Calibrated.{Calibrated}

-- nothing, what a calibration gave and the decimals of its number, or that the value is invalid
pub data Tail : Type 0 where
  Plain : Tail
  Given : (given : Calibrated) (decimals : ℕ) → Tail
  Invalid : Tail

-- a value, its tail, and a change that is told with it
pub record Told : Type 0 where
  pub value : Value
  pub tail : Tail
  pub change : Option Change

-- the record of a packet: its edition where it is another than before, its number, the packet, what it is, its title,
-- its values and how they end
pub record Record : Type 0 where
  pub edition : Option ℕ
  pub number : ℕ
  pub packet : List ℕ
  pub found : Found
  pub title : Option (List ℕ)
  pub values : List Told
  pub ended : Ended
