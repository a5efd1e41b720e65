use Prim.Native.Nat.{◌+◌, ◌*◌}
use mathlib.Core.Path.{◌≡◌}
use mathlib.Core.List.{[]}
use Rattle.points_catmull.specs.Place.{place, made}
use Rattle.points_catmull.specs.Sums.{mesh_of, slot}
use Rattle.points_catmull.specs.Catmull.{edge_by}
use Rattle.points_catmull.proofs.cage.Cage.put_edges.Given as goal

abbrev pub invariant-loop-e : goal.invariant-loop-e
invariant-loop-e l = l.work ≡ place (3 * l.self.c.v) (made (edge_by (slot l.initial.work (l.self.c.v + l.self.c.e)) l.update (mesh_of l.self.c [] l.self.edges.now []) l.self.points.now) l.e) l.initial.work
