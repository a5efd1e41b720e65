use mathlib.Core.Path.{◌≡◌}
use mathlib.Core.List.{map}
use Rattle.scope.specs.Point.{zero_p}
use Rattle.points_catmull.specs.Sums.{head_point, summed}
use Rattle.points_catmull.proofs.cage.Cage.heads.Given as goal

abbrev pub invariant-loop-k : goal.invariant-loop-k
invariant-loop-k g l = l.s ≡ summed zero_p (map (head_point l.self.edges.now l.self.points.now) l.yielded)
