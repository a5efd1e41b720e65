-- How many numbers below n pass a test, the test said first. Assumes nothing.
use Rattle.std.specs.Prelude.{Bool, ℕ}
use Rattle.scope.specs.Lists.{if, number_of}

abbrev pub bit : Bool → ℕ
bit b = if b 1 0

abbrev pub count : (ℕ → Bool) → ℕ → ℕ
count p n = number_of n p
