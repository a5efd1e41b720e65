-- Sums of points around faces and vertices, over the slices of a mesh, and what they ask of its links. Assumes nothing.
use Rattle.std.specs.Prelude.{ℕ, ◌+◌, ◌*◌, ◌≤◌, ◌<◌, ◌≡◌, false, ◌≢◌, List, length, Float}
use Rattle.scope.specs.declared.records.Point.{Point}
use Rattle.scope.specs.declared.records.Counts.{Counts}
use Rattle.scope.specs.Point.{add_p}
use Rattle.scope.specs.Links.{Links, NONE}
use Rattle.scope.specs.Points.{point_at, plus}
use Rattle.mesh.specs.Words.{face_at, head_at, next_at, prev_at, turn_at, link_at}
use Rattle.mesh.specs.Rounds.{rim_at, rim_vertex_at, after}
use Rattle.points_catmull.specs.declared.sums.Sum.{Sum}

-- every halfedge around the vertex that h leaves has a face
pub record Inside (es : List ℕ) (h : ℕ) : Type 0 where
  pub faced : (i : ℕ) → rim_at es (after (turn_at es) i h) ≡ false

-- §2, C1: the halfedges are there and their links in range
pub record Halves (c : Counts) (es : List ℕ) : Type 0 where
  pub few_v : c.v ≤ 1048576
  pub few_e : c.e ≤ 1048576
  pub few_f : c.f ≤ 1048576
  pub there : 8 * c.e ≤ length es
  pub head_in : (h : ℕ) → h < 2 * c.e → head_at es h < c.v
  pub next_in : (h : ℕ) → h < 2 * c.e → next_at es h < 2 * c.e
  pub prev_in : (h : ℕ) → h < 2 * c.e → prev_at es h < 2 * c.e
  pub face_in : (h : ℕ) → h < 2 * c.e → face_at es h ≢ NONE → face_at es h < c.f

-- §2, C1: each face names a halfedge
pub record Starts (c : Counts) (fs : List ℕ) : Type 0 where
  pub there : c.f ≤ length fs
  pub start_in : (f : ℕ) → f < c.f → link_at fs f < 2 * c.e

-- §2: each vertex names a halfedge or none (C1); around one that is not on the rim every halfedge has a face (C9)
pub record Outs (c : Counts) (outs es : List ℕ) : Type 0 where
  pub there : c.v ≤ length outs
  pub out_in : (v : ℕ) → v < c.v → link_at outs v ≢ NONE → link_at outs v < 2 * c.e
  pub inner : (v : ℕ) → v < c.v → rim_vertex_at outs es v ≡ false → Inside es (link_at outs v)

-- the mesh in the slices
abbrev pub mesh_of : Counts → List ℕ → List ℕ → List ℕ → Links
mesh_of c outs es fs = record { nv = c.v; ne = c.e; nf = c.f; outs = outs; edges = es; faces = fs }

-- the point in the i-th place from `at` on
abbrev pub slot : List Float → ℕ → ℕ → Point
slot w at i = point_at w (at + i)

-- the point that h leads to
abbrev pub head_point : List ℕ → List Float → ℕ → Point
head_point es ps h = point_at ps (head_at es h)

-- p plus the others in order, and how many these are
unfoldable pub summed : Point → List Point → Sum
summed p l = record { total = plus p l; count = length l }

-- a sum with one point more
abbrev pub more : Sum → Point → Sum
more s p = record { total = add_p s.total p; count = s.count + 1 }
