-- The law of cutting a feed into packets.
use Rattle.std.specs.Prelude.{ℕ, List}
use Rattle.mib_model.specs.Packets.{IsCut}

-- each feed is packets and a rest
abbrev pub EachFeedIsCut : Type 0
EachFeedIsCut = (feed : List ℕ) → (packets : List (List ℕ)) × (rest : List ℕ) × IsCut feed packets rest
