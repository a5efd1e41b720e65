use Prim.Native.Nat.{◌+◌, ◌*◌}
use mathlib.Core.Path.{◌≡◌}
use mathlib.Core.List.{[]}
use Rattle.scope.specs.Points.{face_point}
use Rattle.points_catmull.specs.Place.{place, made}
use Rattle.points_catmull.specs.Sums.{mesh_of}
use Rattle.points_catmull.proofs.cage.Faces.put.Given as goal

abbrev pub invariant-loop-f : goal.invariant-loop-f
invariant-loop-f l = l.work ≡ place (3 * (l.self.cage.c.v + l.self.cage.c.e)) (made (face_point (mesh_of l.self.cage.c [] l.self.cage.edges.now l.self.starts.now) l.self.cage.points.now) l.f) l.initial.work
