-- The octets that letters and signs of ASCII are.
use Rattle.std.specs.Prelude.{ℕ}
use Prim.Native.Char.{Char, code}

-- the octet of a character
abbrev pub letter : Char → ℕ
letter c = code c
