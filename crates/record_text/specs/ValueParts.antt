-- The line of a value in two parts. [This profile.]
use Rattle.std.specs.Prelude.{List, ℕ, ◌++◌, codes}
use Rattle.mib_model.specs.declared.packet.Value.{Value}
use Rattle.mib_model.specs.RawTexts.{raw_text}
use Rattle.mib_model.specs.Tails.{Tail}
use Rattle.mib_model.specs.Texts.{tail_text}

-- the line up to what stands behind the raw text
abbrev pub begin_text : Value → List ℕ → List ℕ
begin_text v packet = codes "  " ++ v.name ++ codes " " ++ raw_text v packet

-- what stands behind the raw text, to the end of the line
abbrev pub end_text : Tail → List ℕ
end_text tail = tail_text tail ++ codes "\n"
