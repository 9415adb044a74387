-- Steps that may fail: the first fault ends them.
use Rattle.std.specs.Prelude.{Result, Ok, Err}

infixl 10 ◌>>=◌
-- the next step, from what the one before gave
abbrev pub ◌>>=◌ : {A B E : Type 0} → Result A E → (A → Result B E) → Result B E
(Ok value) >>= next = next value
(Err fault) >>= next = Err fault

-- what a step gave, made into something else
abbrev pub made_into : {A B E : Type 0} → (A → B) → Result A E → Result B E
made_into make (Ok value) = Ok (make value)
made_into make (Err fault) = Err fault
