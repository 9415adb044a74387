-- Samples as mib_model defines them. [This profile.]
use Rattle.std.specs.Prelude.{ℤ}
use Rattle.check_plan.specs.declared.sample.Sample.{Sample as Own}
use Rattle.check_plan.specs.declared.sample.Sample.TheVariants as own
use Rattle.mib_model.specs.declared.number.Eng.{Eng}
use Rattle.mib_model.specs.Checks.{Sample, Numbered, Worded}

-- a number by its count, a text by its octets
abbrev pub sample_of : Own → Sample
sample_of (own.Number value) = Numbered value.count
sample_of (own.Text text) = Worded text.now

-- the count of a number
abbrev pub count_of : Eng → ℤ
count_of value = value.count
