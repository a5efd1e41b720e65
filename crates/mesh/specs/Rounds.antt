-- Loops and turns (document 01, section 2) in the slices: each is by computation scope's on links whose lists these are. Assumes nothing.
use Rattle.std.specs.Prelude.{ℕ, zero, suc, ◌+◌, ◌*◌, ◌≤◌, ◌<◌, Bool, ◌||◌, List, [], ◌∷◌, eqb, length, Option, None, Some}
use Rattle.scope.specs.Lists.{if, round}
use Rattle.scope.specs.Links.{NONE, partner}
use Rattle.mesh.specs.Words.{face_at, next_at, turn_at, link_at}

-- §2: around a face, from h by next, among n edges
abbrev pub loop_at : List ℕ → ℕ → ℕ → List ℕ
loop_at es n h = round h (next_at es) (2 * n) h

-- §2: around the vertex that h leaves
abbrev pub turns_at : List ℕ → ℕ → ℕ → List ℕ
turns_at es n h = round h (turn_at es) (2 * n) h

-- §2: around vertex v
abbrev pub around_at : List ℕ → List ℕ → ℕ → ℕ → List ℕ
around_at outs es n v =
    let hs = turns_at es n (link_at outs v) in
    if (eqb (link_at outs v) NONE) [] hs

-- §2: a halfedge without face is a rim halfedge; §3: an edge with one; §2: a vertex is on the rim when its named halfedge is one, or when it is isolated
abbrev pub rim_at : List ℕ → ℕ → Bool
rim_at es h = eqb (face_at es h) NONE

abbrev pub rim_edge_at : List ℕ → ℕ → Bool
rim_edge_at es e = rim_at es (2 * e) || rim_at es (2 * e + 1)

abbrev pub rim_vertex_at : List ℕ → List ℕ → ℕ → Bool
rim_vertex_at outs es v = eqb (link_at outs v) NONE || rim_at es (link_at outs v)

-- a halfedge whose partner is a rim halfedge
abbrev pub side_at : List ℕ → ℕ → Bool
side_at es h = rim_at es (partner h)

-- the first of l that passes
unfoldable pub first_of : (ℕ → Bool) → List ℕ → Option ℕ
first_of test [] = None
first_of test (x ∷ l) = let r = first_of test l in if (test x) (Some x) r

-- x after i steps
unfoldable pub after : (ℕ → ℕ) → ℕ → ℕ → ℕ
after step zero x = x
after step (suc i) x = after step i (step x)

-- what a walk from x needs: the halfedges that it meets are among n edges, and these are all there
pub record Walk (step : List ℕ → ℕ → ℕ) (es : List ℕ) (n x : ℕ) : Type 0 where
  pub room : 8 * n ≤ length es
  pub met : (i : ℕ) → after (step es) i x < 2 * n
