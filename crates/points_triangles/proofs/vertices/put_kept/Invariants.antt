use mathlib.Core.Path.{◌≡◌}
use Rattle.scope.specs.Points.{point_at}
use Rattle.points_catmull.specs.Place.{place, made}
use Rattle.points_triangles.proofs.vertices.put_kept.Given as goal

abbrev pub invariant-loop-v : goal.invariant-loop-v
invariant-loop-v l = l.work ≡ place 0 (made (point_at l.points) l.v) l.initial.work
