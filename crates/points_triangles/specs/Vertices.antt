-- The vertices of Loop and sqrt3 (document 01, section 3): scope's rules over any weights and any rule for the rim, with the answer for a valence that
-- has no weights. Assumes nothing.
use Rattle.std.specs.Prelude.{ℕ, Bool, not, ◌&&◌, List, map, Option, Some, None, ltb, length, get_or, Float}
use Rattle.scope.specs.declared.records.Point.{Point}
use Rattle.scope.specs.declared.records.Weights.{Weights}
use Rattle.scope.specs.Point.{zero_p}
use Rattle.scope.specs.Rules.{weighted}
use Rattle.scope.specs.Lists.{if}
use Rattle.scope.specs.Links.{Links, rim_vertex, around}
use Rattle.scope.specs.Points.{point_at, plus, heads, on_rim}
use Rattle.mesh.specs.Words.{tail_at}
use Rattle.mesh.specs.Rounds.{turns_at}
use Rattle.points_catmull.specs.Sums.{head_point}
use Rattle.points_weights.specs.Tables.{no_row}
use Rattle.points_triangles.specs.declared.inner.Moved.{Moved}
use Rattle.points_triangles.specs.declared.inner.Moved.TheVariants.{To, By}

-- the point that h comes from
abbrev pub tail_point : List ℕ → List Float → ℕ → Point
tail_point es ps h = point_at ps (tail_at es h)

-- sqrt3, a rim vertex in a pass that leaves the rim as it is
abbrev pub stay : Point → Point → Point → Point
stay p a b = p

-- by the row for its valence
unfoldable pub weighed : List Weights → Point → Point → ℕ → Point
weighed rows ns p n = let w = get_or rows n no_row in weighted ns p w.first w.second

-- no weights, or how it moves
unfoldable pub unless_heavy : {A : Type 0} → Bool → A → Option A
unless_heavy heavy x = if heavy None (Some x)

-- how the interior vertex p goes that h leaves
unfoldable pub inner_move : List ℕ → ℕ → List Float → ℕ → Point → Option Moved
inner_move es n ps h p =
    let hs = turns_at es n h in
    unless_heavy (not (ltb (length hs) 64)) (By (length hs) (plus zero_p (map (head_point es ps) hs)) p)

-- §4, answer 6: an interior vertex of valence 64 or more
unfoldable pub heavy : Links → ℕ → Bool
heavy m v = not (rim_vertex m v) && not (ltb (length (around m v)) 64)

-- how vertex v goes, by this rule for the rim: in the interior by the row for its valence, its neighbours' sum and its own point
unfoldable pub vertex_move : (Point → Point → Point → Point) → Links → List Float → ℕ → Option Moved
vertex_move rim m ps v =
    let hs = around m v in
    unless_heavy (heavy m v) (if (rim_vertex m v) (To (on_rim rim m ps v)) (By (length hs) (heads m ps hs) (point_at ps v)))

-- where it goes, by these weights
unfoldable pub vertex_of : List Weights → (Point → Point → Point → Point) → Links → List Float → ℕ → Point
vertex_of rows rim m ps v =
    let hs = around m v in
    if (rim_vertex m v) (on_rim rim m ps v) (weighed rows (heads m ps hs) (point_at ps v) (length hs))

-- the same, or nothing where weights are wanted and not there
unfoldable pub moved_vertex : List Weights → (Point → Point → Point → Point) → Links → List Float → ℕ → Option Point
moved_vertex rows rim m ps v = unless_heavy (heavy m v) (vertex_of rows rim m ps v)
