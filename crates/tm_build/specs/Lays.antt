-- Values that are laid place by place: what is left to be laid behind those that stand. [This profile.]
use Rattle.std.specs.Prelude.{◌≡◌, ℕ, List, [], ◌++◌, Option, Some, None}
use Rattle.mib_model.specs.declared.packet.Value.{Value}
use Rattle.mib_model.specs.Fixed.{Place}
use Rattle.bit_field.specs.declared.values.Values.{Values}
use Rattle.bit_field.specs.Taken.{taken}
use Rattle.struct_plan.specs.declared.numbers.WalkEnd.{WalkEnd}
use Rattle.struct_plan.specs.Sources.{Source, Walked}
use Rattle.build_rules.specs.Laying.{values_from}

-- values with others in front
abbrev pub behind_all : List Value → Walked → Walked
behind_all values more = (values ++ more.0, more.1)

-- all that is laid where values stand: the rest of the places is still to come, unless they have ended
abbrev pub all_from : Source → Option WalkEnd → List Value → ℕ → List Place → Walked
all_from source None values given rest = behind_all values (values_from source given rest)
all_from source (Some why) values given rest = (values, why)

-- from the values before to those now the values of these places were laid, up to an end where there is one
abbrev pub Lays : Source → List Place → Option WalkEnd → Values → Values → Type 0
Lays source places end old new =
    (rest : List Place) → all_from source None (taken old) old.used (places ++ rest) ≡ all_from source end (taken new) new.used rest
