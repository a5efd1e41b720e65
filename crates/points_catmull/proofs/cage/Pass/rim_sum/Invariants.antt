use mathlib.Core.Path.{◌≡◌}
use Rattle.points_catmull.specs.Sums.{slot, summed}
use Rattle.points_catmull.proofs.CatmullLaws.{rim_points}
use Rattle.points_catmull.proofs.cage.Pass.rim_sum.Given as goal

abbrev pub invariant-loop-k : goal.invariant-loop-k
invariant-loop-k l = l.s ≡ summed l.fn.p (rim_points (slot l.self.work.now l.self.cage.c.v) l.self.cage.edges.now l.yielded)
