-- The values of a packet that were taken, and the slots that they stand in. [This profile.]
use Rattle.std.specs.Prelude.{◌≡◌, ◌≤◌, List, length, take}
use Rattle.mib_model.specs.Fixed.{most_values}
use Rattle.mib_model.specs.declared.packet.Value.{Value}
use Rattle.bit_field.specs.declared.values.Values.{Values}

-- the front of the slots that is in use
abbrev pub taken : Values → List Value
taken values = take values.used values.slots.now

-- there are as many slots as a packet may have values, of which no more are in use
pub record HasSlots (values : Values) : Type 0 where
  pub slots : length values.slots.now ≡ most_values
  pub used : values.used ≤ most_values

-- they are the slots that were lent before
pub record KeepsSlots (old new : Values) : Type 0 where
  pub slots : length new.slots.now ≡ most_values
  pub used : new.used ≤ most_values
  pub borrow : new.slots.ghost_name ≡ old.slots.ghost_name

-- the values that were taken stay, in the slots that were lent before
pub record KeepsValues (old new : Values) : Type 0 where
  pub taken : taken new ≡ taken old
  pub used : new.used ≡ old.used
  pub slots : length new.slots.now ≡ most_values
  pub borrow : new.slots.ghost_name ≡ old.slots.ghost_name
