-- Catmull-Clark's rules (document 01, section 3) with the points of faces and of edges at hand: scope's, where f gives the face points and g the edge points.
-- Assumes nothing.
use Rattle.std.specs.Prelude.{ℕ, suc, ◌+◌, ◌*◌, ◌/◌, Bool, not, ◌&&◌, List, map, length, Float}
use Rattle.scope.specs.declared.records.Point.{Point}
use Rattle.scope.specs.Point.{add_p, over_p, zero_p}
use Rattle.scope.specs.Rules.{cc_edge, cc_inner, middle}
use Rattle.scope.specs.Lists.{if, only}
use Rattle.scope.specs.Links.{Links, face, head, rim_edge, rim_vertex, around}
use Rattle.scope.specs.Points.{point_at, plus, number, heads}
use Rattle.points_catmull.specs.declared.sums.Sum.{Sum}
use Rattle.points_catmull.specs.declared.catmull.Ring.{Ring}
use Rattle.points_catmull.specs.Sums.{summed}

unfoldable pub edge_by : (ℕ → Point) → Bool → Links → List Float → ℕ → Point
edge_by f update m ps e =
    let a = point_at ps (head m (2 * e)) in
    let b = point_at ps (head m (2 * e + 1)) in
    let mid = middle a b in
    let smooth = cc_edge a b (f (face m (2 * e))) (f (face m (2 * e + 1))) in
    if (update && not (rim_edge m e)) smooth mid

-- the rim edges of the halfedges hs
abbrev pub rim_edges : Links → List ℕ → List ℕ
rim_edges m hs = only (rim_edge m) (map (λ h. h / 2) hs)

unfoldable pub rim_by : (ℕ → Point) → Links → List Float → ℕ → Point
rim_by g m ps v = let es = rim_edges m (around m v) in over_p (plus (point_at ps v) (map g es)) (number (suc (length es)))

unfoldable pub inner_by : (ℕ → Point) → Links → List Float → ℕ → Point
inner_by f m ps v =
    let hs = around m v in
    cc_inner (plus zero_p (map (λ h. f (face m h)) hs)) (heads m ps hs) (point_at ps v) (length hs)

unfoldable pub vertex_by : (ℕ → Point) → (ℕ → Point) → Bool → Links → List Float → ℕ → Point
vertex_by f g update m ps v =
    let moved = if (rim_vertex m v) (rim_by g m ps v) (inner_by f m ps v) in
    if update moved (point_at ps v)

-- the sums of face points and of heads over the same halfedges
unfoldable pub ring_of : (ℕ → Point) → (ℕ → Point) → List ℕ → Ring
ring_of f g hs = record { faces = plus zero_p (map f hs); heads = summed zero_p (map g hs) }

-- a sum with one more point, where b says so
unfoldable pub joined : Bool → Sum → Point → Sum
joined b s p = if b (record { total = add_p s.total p; count = s.count + 1 }) s
