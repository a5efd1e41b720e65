-- The points of one pass of each scheme (document 01, section 3), from the links and points before it. Assumes nothing.
use Rattle.std.specs.Prelude.{ℕ, suc, ◌+◌, ◌*◌, ◌/◌, Bool, true, not, ◌&&◌, List, [], ◌∷◌, ◌++◌, map, eqb, pos, get_or, length, Float, None, Some}
use Rattle.std.specs.Float.{nan, binary64}
use Rattle.std.specs.Float.Ieee.{of_int}
use Rattle.scope.specs.declared.records.Point.{Point}
use Rattle.scope.specs.declared.records.FacePoints.{FacePoints}
use Rattle.scope.specs.declared.records.FacePoints.TheVariants.{Centre, Pair}
use Rattle.scope.specs.Point.{add_p, over_p, zero_p}
use Rattle.scope.specs.Rules.{cc_edge, cc_inner, middle, loop_edge, loop_rim, weighted, sqrt_rim, sqrt_pair}
use Rattle.scope.specs.Weights.{row, loop_rows, sqrt_rows}
use Rattle.scope.specs.Lists.{range, if, only}
use Rattle.scope.specs.Links.{Links, NONE, partner, face, head, next, prev, out, start, tail, rim_edge, rim_vertex, loop, around}
use Rattle.scope.specs.Passes.{rim_side}

-- the point of vertex v; three numbers for each of ps
abbrev pub point_at : List Float → ℕ → Point
point_at ps v = record { x = get_or ps (3 * v) nan; y = get_or ps (3 * v + 1) nan; z = get_or ps (3 * v + 2) nan }

unfoldable pub flat : List Point → List Float
flat [] = []
flat (p ∷ ps) = p.x ∷ p.y ∷ p.z ∷ flat ps

-- p plus the others in order
unfoldable pub plus : Point → List Point → Point
plus p [] = p
plus p (q ∷ qs) = plus (add_p p q) qs

abbrev pub number : ℕ → Float
number n = of_int binary64 (pos n)

-- zero plus the heads of hs
unfoldable pub heads : Links → List Float → List ℕ → Point
heads m ps hs = plus zero_p (map (λ h. point_at ps (head m h)) hs)

unfoldable pub face_point : Links → List Float → ℕ → Point
face_point m ps f = let hs = loop m (start m f) in over_p (heads m ps hs) (number (length hs))

-- ---- Catmull-Clark
unfoldable pub catmull_edge : Bool → Links → List Float → ℕ → Point
catmull_edge update m ps e =
    let a = point_at ps (head m (2 * e)) in
    let b = point_at ps (head m (2 * e + 1)) in
    let mid = middle a b in
    let smooth = cc_edge a b (face_point m ps (face m (2 * e))) (face_point m ps (face m (2 * e + 1))) in
    if (update && not (rim_edge m e)) smooth mid

unfoldable pub catmull_rim : Links → List Float → ℕ → Point
catmull_rim m ps v =
    let es = only (rim_edge m) (map (λ h. h / 2) (around m v)) in
    over_p (plus (point_at ps v) (map (catmull_edge true m ps) es)) (number (suc (length es)))

unfoldable pub catmull_inner : Links → List Float → ℕ → Point
catmull_inner m ps v =
    let hs = around m v in
    cc_inner (plus zero_p (map (λ h. face_point m ps (face m h)) hs)) (heads m ps hs) (point_at ps v) (length hs)

unfoldable pub catmull_vertex : Bool → Links → List Float → ℕ → Point
catmull_vertex update m ps v =
    let moved = if (rim_vertex m v) (catmull_rim m ps v) (catmull_inner m ps v) in
    if update moved (point_at ps v)

unfoldable pub catmull_points : Bool → Links → List Float → List Float
catmull_points update m ps =
    flat (
    map (catmull_vertex update m ps) (range 0 m.nv)
    ++ map (catmull_edge update m ps) (range 0 m.ne)
    ++ map (face_point m ps) (range 0 m.nf)
    )

-- ---- Loop and sqrt3: an interior vertex by its weights
unfoldable pub inner : List (ℕ × ℕ) → Links → List Float → ℕ → Point
inner rows m ps v =
    let hs = around m v in
    let w = row rows (length hs) in
    weighted (heads m ps hs) (point_at ps v) w.first w.second

-- a rim vertex by its two rim neighbours, where it is not isolated
unfoldable pub on_rim : (Point → Point → Point → Point) → Links → List Float → ℕ → Point
on_rim rule m ps v =
    let p = point_at ps v in
    let h = out m v in
    let moved = rule p (point_at ps (head m h)) (point_at ps (tail m (prev m h))) in
    if (eqb h NONE) p moved

unfoldable pub loop_edge_point : Bool → Links → List Float → ℕ → Point
loop_edge_point update m ps e =
    let h = 2 * e in
    let o = 2 * e + 1 in
    let a = point_at ps (head m h) in
    let b = point_at ps (head m o) in
    let mid = middle a b in
    let smooth = loop_edge a b (point_at ps (head m (next m h))) (point_at ps (head m (next m o))) in
    if (update && not (rim_edge m e)) smooth mid

unfoldable pub loop_vertex : Bool → Links → List Float → ℕ → Point
loop_vertex update m ps v =
    let moved = if (rim_vertex m v) (on_rim loop_rim m ps v) (inner loop_rows m ps v) in
    if update moved (point_at ps v)

unfoldable pub loop_points : Bool → Links → List Float → List Float
loop_points update m ps = flat (map (loop_vertex update m ps) (range 0 m.nv) ++ map (loop_edge_point update m ps) (range 0 m.ne))

-- ---- sqrt3
unfoldable pub sqrt_vertex : Bool → Links → List Float → ℕ → Point
sqrt_vertex flag m ps v = if (rim_vertex m v) (if flag (on_rim sqrt_rim m ps v) (point_at ps v)) (inner sqrt_rows m ps v)

-- a face's answer: its centre, or the pair on its rim edge, whose rim halfedge is r
unfoldable pub sqrt_answer : Bool → Links → List Float → ℕ → FacePoints
sqrt_answer flag m ps f =
    elim (if flag (rim_side f m) None) [
      | None ↦ Centre (face_point m ps f)
      | Some h ↦
          let r = partner h in
          sqrt_pair (point_at ps (head m (next m r))) (point_at ps (head m r)) (point_at ps (tail m r)) (point_at ps (tail m (prev m r)))
    ]

abbrev pub given : FacePoints → List Point
given (Centre p) = p ∷ []
given (Pair p q) = p ∷ q ∷ []

unfoldable pub answers : Bool → Links → List Float → List ℕ → List Point
answers flag m ps [] = []
answers flag m ps (f ∷ fs) = given (sqrt_answer flag m ps f) ++ answers flag m ps fs

unfoldable pub sqrt_points : Bool → Links → List Float → List Float
sqrt_points flag m ps = flat (map (sqrt_vertex flag m ps) (range 0 m.nv) ++ answers flag m ps (range 0 m.nf))
