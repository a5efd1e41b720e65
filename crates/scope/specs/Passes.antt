-- The links of one pass of each scheme (document 01, section 3). Assumes nothing.
use Rattle.std.specs.Prelude.{ℕ, suc, ◌+◌, ◌*◌, Bool, List, [], ◌∷◌, ltb, Option, None, Some}
use Rattle.scope.specs.Lists.{each, if}
use Rattle.scope.specs.Links.{Links, partner, head, next, prev, start, rim, rim_edge, loop, ◌▸◌, out_is, more}
use Rattle.scope.specs.Edits.{split_edge, cut_off, Part, fan, split_face, swap_ccw}

-- ---- Catmull-Clark and Loop: every edge split, edge e by the new vertex nv + e
unfoldable pub split_edges : Links → Links
split_edges m = each m.ne (λ e l. l ▸ split_edge (2 * e) l.nv ▸ more 1 0 0) m

-- the loop of face f, from its first halfedge whose head is an old vertex, one below n
unfoldable pub from_old : ℕ → ℕ → Links → List ℕ
from_old n f m =
    let s = start m f in
    loop m (if (ltb (head m s) n) s (next m s))

-- Catmull-Clark: two halfedges are a part; the first keeps f, the others get new faces
unfoldable pub pairs : ℕ → ℕ → List ℕ → List Part
pairs f g [] = []
pairs f g (h ∷ []) = []
pairs f g (h ∷ k ∷ hs) = record { a = h; b = k; g = f } ∷ pairs g (suc g) hs

unfoldable pub catmull_face : ℕ → ℕ → Links → Links
catmull_face n f m = m ▸ fan m.nv (pairs f m.nf (from_old n f m)) ▸ out_is m.nv (2 * m.ne + 1) ▸ more 1 0 0

unfoldable pub catmull_pass : Links → Links
catmull_pass m = each m.nf (catmull_face m.nv) (split_edges m)

-- ---- Loop: a new edge cuts off each corner
unfoldable pub corners : List ℕ → Links → Links
corners [] m = m
corners (h ∷ []) m = m
corners (h ∷ k ∷ hs) m = corners hs (cut_off k h m)

unfoldable pub loop_face : ℕ → ℕ → Links → Links
loop_face n f m = corners (from_old n f m) m

unfoldable pub loop_pass : Links → Links
loop_pass m = each m.nf (loop_face m.nv) (split_edges m)

-- ---- sqrt3: every face gets its new points, then every old edge with two faces is swapped ccw in index order
unfoldable pub rim_of : Links → List ℕ → Option ℕ
rim_of m [] = None
rim_of m (h ∷ hs) = let r = rim_of m hs in if (rim m (partner h)) (Some h) r

-- the first halfedge of face f whose partner is on the rim
unfoldable pub rim_side : ℕ → Links → Option ℕ
rim_side f m = rim_of m (loop m (start m f))

-- with the flag true, a face with a rim edge h gets two new vertices on it
unfoldable pub rim_face : ℕ → Links → Links
rim_face h m =
    let l = m ▸ split_edge h m.nv ▸ more 1 0 0 in
    let k = l ▸ split_edge h l.nv ▸ more 1 0 0 in
    let n = 2 * m.ne in
    let j = k ▸ cut_off n (prev k n) in
    j ▸ cut_off (next j h) h

unfoldable pub centre_face : ℕ → Links → Links
centre_face f m = m ▸ split_face f m.nv ▸ more 1 0 0

unfoldable pub sqrt_face : Bool → ℕ → Links → Links
sqrt_face flag f m = elim (if flag (rim_side f m) None) [ None ↦ centre_face f m | Some h ↦ rim_face h m ]

unfoldable pub swap_inner : ℕ → Links → Links
swap_inner e m = let swapped = swap_ccw e m in if (rim_edge m e) m swapped

unfoldable pub sqrt_pass : Bool → Links → Links
sqrt_pass flag m = each m.ne swap_inner (each m.nf (sqrt_face flag) m)
