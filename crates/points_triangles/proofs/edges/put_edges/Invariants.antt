use Prim.Native.Nat.{◌*◌}
use mathlib.Core.Path.{◌≡◌}
use mathlib.Core.List.{[]}
use Rattle.scope.specs.Points.{loop_edge_point}
use Rattle.points_catmull.specs.Place.{place, made}
use Rattle.points_catmull.specs.Sums.{mesh_of}
use Rattle.points_triangles.proofs.edges.put_edges.Given as goal

abbrev pub invariant-loop-e : goal.invariant-loop-e
invariant-loop-e l = l.work ≡ place (3 * l.cage.c.v) (made (loop_edge_point l.update (mesh_of l.cage.c [] l.cage.edges.now []) l.cage.points.now) l.e) l.initial.work
