-- What tests of whole numbers tell.
use Rattle.std.proofs.Common.{◌≡◌, ◌≢◌, ℤ, ◌<ℤ◌, ◌≤ℤ◌, true, false, int_le, int_lt, arith}
use Rattle.std.proofs.lemmas.Int.{ints}

pub le-holds : (a b : ℤ) → int_le a b ≡ true → a ≤ℤ b
le-holds a b h = grind (arith, ints)

pub le-fails : (a b : ℤ) → int_le a b ≡ false → b <ℤ a
le-fails a b h = grind (arith, ints)

pub lt-holds : (a b : ℤ) → int_lt a b ≡ true → a <ℤ b
lt-holds a b h = grind (arith, ints)

pub lt-fails : (a b : ℤ) → int_lt a b ≡ false → b ≤ℤ a
lt-fails a b h = grind (arith, ints)

pub le-test : (a b : ℤ) → a ≤ℤ b → int_le a b ≡ true
le-test a b h = grind (arith, ints)

pub gt-test : (a b : ℤ) → b <ℤ a → int_le a b ≡ false
gt-test a b h = grind (arith, ints)

pub lt-past : (a b c : ℤ) → a <ℤ b → b <ℤ c → a <ℤ c
lt-past a b c h k = omega (arith, ints)

pub below-other : (a b : ℤ) → int_le a b ≡ true → b ≢ a → a <ℤ b
below-other a b h other = grind (arith, ints)

pub le-past : (a b c : ℤ) → a <ℤ b → b ≤ℤ c → int_le a c ≡ true
le-past a b c h k = le-test a c (omega (arith, ints))
