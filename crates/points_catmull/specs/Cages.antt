-- The meshes in the slices that a pass reads, and the points that its work slice has. Assumes nothing.
use Rattle.std.specs.Prelude.{ℕ, ◌+◌, []}
use Rattle.scope.specs.declared.records.Point.{Point}
use Rattle.scope.specs.Links.{Links}
use Rattle.points_catmull.specs.declared.cage.Cage.{Cage}
use Rattle.points_catmull.specs.declared.cage.Faces.{Faces}
use Rattle.points_catmull.specs.declared.cage.Vertices.{Vertices}
use Rattle.points_catmull.specs.declared.cage.Pass.{Pass}
use Rattle.points_catmull.specs.Sums.{mesh_of, slot}

-- with edges alone
abbrev pub edges_in : Cage → Links
edges_in g = mesh_of g.c [] g.edges.now []

-- with edges and faces
abbrev pub faces_in : Faces → Links
faces_in m = mesh_of m.cage.c [] m.cage.edges.now m.starts.now

-- with edges and vertices
abbrev pub vertices_in : Vertices → Links
vertices_in m = mesh_of m.cage.c m.outs.now m.cage.edges.now []

-- the face points and the edge points that a pass has in its work slice
abbrev pub face_slot : Pass → ℕ → Point
face_slot p i = slot p.work.now (p.cage.c.v + p.cage.c.e) i

abbrev pub edge_slot : Pass → ℕ → Point
edge_slot p i = slot p.work.now p.cage.c.v i
