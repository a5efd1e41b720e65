use Prim.Native.Nat.{◌+◌}
use mathlib.Core.Path.{◌≡◌}
use Rattle.mesh.specs.Words.{face_at}
use Rattle.points_catmull.specs.Sums.{head_point, slot}
use Rattle.points_catmull.specs.Catmull.{ring_of}
use Rattle.points_catmull.proofs.cage.Pass.inner_ring.Given as goal

abbrev pub invariant-loop-k : goal.invariant-loop-k
invariant-loop-k l =
    record { faces = l.faces; heads = l.heads } ≡ ring_of (λ j. slot l.self.work.now (l.self.cage.c.v + l.self.cage.c.e) (face_at l.self.cage.edges.now j)) (head_point l.self.cage.edges.now l.self.cage.points.now) l.yielded
