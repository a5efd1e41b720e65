-- How many numbers the points of a pass are. Assumes nothing.
use mathlib.Core.Path.{◌≡◌, refl, ap}
use mathlib.Core.List.{List, [], ◌∷◌}
use Prim.Native.Nat.{ℕ, zero, suc, ◌*◌}
use native.Mathlib.Omega.{arith}
use lib.ListN.{length}
use Rattle.scope.specs.declared.records.Point.{Point}
use Rattle.scope.specs.Lists.{range}
use Rattle.scope.specs.Points.{flat}

pub length-range : (k n : ℕ) → length (range k n) ≡ n
unfolding range
length-range k zero = refl
length-range k (suc n) = ap suc (length-range (suc k) n)

pub length-flat : (ps : List Point) → length (flat ps) ≡ 3 * length ps
unfolding flat
length-flat [] = refl
length-flat (p ∷ ps) = let e = length-flat ps in omega arith
