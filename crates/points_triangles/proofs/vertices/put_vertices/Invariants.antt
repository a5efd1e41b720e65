use mathlib.Core.Path.{◌≡◌}
use mathlib.Core.List.{[]}
use Rattle.std.specs.Prelude.{None}
use Rattle.points_catmull.specs.Place.{place, made}
use Rattle.points_catmull.specs.Sums.{mesh_of}
use Rattle.points_triangles.specs.Vertices.{vertex_of}
use Rattle.points_triangles.proofs.VertexLaws.{lowest}
use Rattle.points_triangles.proofs.vertices.put_vertices.Given as goal

abbrev pub invariant-loop-v : goal.invariant-loop-v
invariant-loop-v g l = record {
  content : l.work ≡ place 0 (made (vertex_of l.rows g.S.Scheme.rim (mesh_of l.vertices.cage.c l.vertices.outs.now l.vertices.cage.edges.now []) l.vertices.cage.points.now) l.v) l.initial.work;
  light : lowest (mesh_of l.vertices.cage.c l.vertices.outs.now l.vertices.cage.edges.now []) l.v ≡ None;
}
