-- Points laid into a slice of numbers, from a place on. Assumes nothing.
use Rattle.std.specs.Prelude.{ℕ, zero, suc, List, [], ◌∷◌, map, Float}
use Rattle.scope.specs.declared.records.Point.{Point}
use Rattle.scope.specs.Lists.{over, range}
use Rattle.scope.specs.Points.{flat}

-- old with l over its places from i on
unfoldable pub place : {A : Type 0} → ℕ → List A → List A → List A
place zero l old = over l old
place (suc i) l [] = []
place (suc i) l (y ∷ old) = y ∷ place i l old

-- the numbers of f 0, f 1, .. , n points
unfoldable pub made : (ℕ → Point) → ℕ → List Float
made f n = flat (map f (range 0 n))
