-- The weight tables as the code has them, and which row is for a valence. Assumes nothing.
use Rattle.std.specs.Prelude.{ℕ, ◌-◌, ◌^◌, false, List, ◌∷◌, map, ltb, drop, Float, Option, Some, None}
use Rattle.std.specs.Float.{nan, binary64}
use Rattle.std.specs.Float.Ieee.{round}
use Rattle.scope.specs.declared.records.Weights.{Weights}
use Rattle.scope.specs.Lists.{if}
use Rattle.scope.specs.Weights.{dec}

-- f64::MAX
unfoldable pub largest : Float
largest = round binary64 false (2 ^ 1024 - 2 ^ 971) 1

-- what `get_or` answers past a table
abbrev pub no_row : Weights
no_row = record { first = nan; second = nan }

abbrev pub weights : ℕ × ℕ → Weights
weights p = record { first = dec p.0; second = dec p.1 }

-- row 0 has the largest number twice, as in the source; each other row its two decimals
unfoldable pub table : List (ℕ × ℕ) → List Weights
table rows = record { first = largest; second = largest } ∷ map weights (drop 1 rows)

unfoldable pub found : ℕ → Option ℕ
found n = if (ltb n 64) (Some n) None
