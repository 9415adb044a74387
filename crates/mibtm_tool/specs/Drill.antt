-- The summary of a generated run: what is counted of the text that its packets print by its tables. [This profile.]
use Rattle.std.specs.Prelude.{ℕ, List, []}
use Rattle.run_model.specs.Output.{output_of_one}
use Rattle.tm_drill.specs.Counts.{counts_of, summary}
use Rattle.tm_drill.specs.Feed.{drill_packets}
use Rattle.tm_drill.specs.Tables.{drill_database}

-- the text that a run prints, by its seed
abbrev pub drill_output : ℕ → List ℕ
drill_output seed = output_of_one drill_database (drill_packets seed) []

-- the summary of what is counted of its lines
abbrev pub drill_summary : ℕ → List ℕ
drill_summary seed = summary (counts_of (drill_output seed))
