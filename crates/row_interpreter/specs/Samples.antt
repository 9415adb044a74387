-- Samples as the program has them. [This profile.]
use Rattle.mib_model.specs.Checks.{Sample, Numbered, Worded}
use Rattle.row_interpreter.specs.declared.sample.Checked.{Checked}
use Rattle.row_interpreter.specs.declared.sample.Checked.TheVariants as checked

-- a number by its count, a text by its octets
abbrev pub sample_as : Checked → Sample
sample_as (checked.Count count) = Numbered count
sample_as (checked.Words text) = Worded text.now
