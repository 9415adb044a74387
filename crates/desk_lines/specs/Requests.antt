-- The request that a line's form is. [This profile.]
use Rattle.std.specs.Prelude.{ℕ, Bool, List, [], ◌∷◌, codes, Option, Some, None, option_and_then, Result, Ok, Err, if◌then◌else◌}
use Rattle.std.specs.List.{list_any, before_first, after_first}
use Rattle.mib_model.specs.declared.kind.Kind.{Kind}
use Rattle.std.specs.Str.{bytes_eq}
use Rattle.run_model.specs.DeskLines as Spec
use Rattle.mib_model.specs.Digits.{natural_in}
use Rattle.desk_lines.specs.declared.request.Request.{Request}
use Rattle.desk_lines.specs.declared.request.Request.TheVariants as request

-- the request that is asked for
abbrev pub asked : Request → Spec.Request
asked request.Comment = Spec.Comment
asked request.TooLong = Spec.TooLong
asked request.BadLine = Spec.BadLine
asked request.BadTable = Spec.BadTable
asked (request.Put table row) = Spec.Put table row.now
asked (request.Delete table key) = Spec.Delete table key.now
asked request.Save = Spec.Save
asked request.Drop = Spec.Drop
asked (request.Use edition) = Spec.Use edition
asked (request.UseFrom edition from) = Spec.UseFrom edition from
asked request.Go = Spec.Go

-- the parts of a text before and behind the first octet of a kind, where there is one
abbrev pub cut : (ℕ → Bool) → List ℕ → Option (List ℕ × List ℕ)
cut is text = if list_any is text then Some (before_first is text, after_first is text) else None

-- the word that words are, where they are one
abbrev pub only : List (List ℕ) → Option (List ℕ)
only (word ∷ []) = Some word
only other = None

-- a table's order, or the request that there is in its place
abbrev pub table_order : (Kind → List ℕ → Spec.Request) → Result (Kind × List ℕ) Request → Spec.Request
table_order make (Ok (table, text)) = make table text
table_order make (Err other) = asked other

-- the number behind the word `from`, where these are all the words
abbrev pub from_in : List (List ℕ) → Option ℕ
from_in [] = None
from_in (word ∷ words) = if bytes_eq word (codes "from") then option_and_then natural_in (only words) else None
