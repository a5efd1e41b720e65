use Prim.Native.Nat.{◌+◌}
use mathlib.Core.Path.{◌≡◌}
use mathlib.Core.List.{[]}
use Rattle.points_catmull.specs.Place.{place, made}
use Rattle.points_catmull.specs.Sums.{mesh_of, slot}
use Rattle.points_catmull.specs.Catmull.{vertex_by}
use Rattle.points_catmull.proofs.cage.Vertices.put.Given as goal

abbrev pub invariant-loop-v : goal.invariant-loop-v
invariant-loop-v l = l.work ≡ place 0 (made (vertex_by (slot l.initial.work (l.self.cage.c.v + l.self.cage.c.e)) (slot l.initial.work l.self.cage.c.v) l.update (mesh_of l.self.cage.c l.self.outs.now l.self.cage.edges.now []) l.self.cage.points.now) l.v) l.initial.work
