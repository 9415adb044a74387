-- The lines of a printed text, and the first at which two texts differ. [This profile.]
use Rattle.std.specs.Prelude.{ℕ, suc, List, [], ◌∷◌, Option, Some, None, ◌==◌, if◌then◌else◌}
use Rattle.std.specs.Str.{bytes_eq}
use Rattle.mib_model.specs.Lines.{is_feed}

-- an octet put in front of lines: the first of them begins with it, or it is the only one
abbrev pub with_octet : ℕ → List (List ℕ) → List (List ℕ)
with_octet octet [] = (octet ∷ []) ∷ []
with_octet octet (line ∷ lines) = (octet ∷ line) ∷ lines

-- the lines of a text: each runs up to and with its LF, and the last one to the end
unfoldable pub text_lines : List ℕ → List (List ℕ)
text_lines [] = []
text_lines (octet ∷ rest) = if is_feed octet then (octet ∷ []) ∷ text_lines rest else with_octet octet (text_lines rest)

-- the first line at which two texts differ, the first of them having this number; one past the last of the shorter where all
-- its lines are the first lines of the other
unfoldable pub first_apart : ℕ → List (List ℕ) → List (List ℕ) → Option ℕ
first_apart number [] [] = None
first_apart number [] (line ∷ lines) = Some number
first_apart number (line ∷ lines) [] = Some number
first_apart number (line ∷ lines) (other ∷ others) = if bytes_eq line other then first_apart (suc number) lines others else Some number

-- the line in which two texts part, octet by octet: each LF that both have ends a line
unfoldable pub parting : ℕ → List ℕ → List ℕ → Option ℕ
parting number [] [] = None
parting number [] (octet ∷ rest) = Some number
parting number (octet ∷ rest) [] = Some number
parting number (octet ∷ rest) (other ∷ others) =
    if octet == other then parting (if is_feed octet then suc number else number) rest others else Some number
