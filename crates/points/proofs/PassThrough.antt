-- A relation that goes through the smoothing rules (`Through`) goes through the points of a whole pass of each scheme, and of any number of passes:
-- two sets of points over the same links that are related vertex by vertex stay so. Assumes nothing.
use mathlib.Core.Path.{◌≡◌, refl}
use mathlib.Core.Bool.{Bool, true, false, not, ◌&&◌}
use mathlib.Core.List.{List, [], ◌∷◌, ◌++◌, map}
use Rattle.std.specs.Prelude.{Option, None, Some}
use Prim.Native.Nat.{ℕ, zero, suc, ◌+◌, ◌*◌, ◌/◌}
use native.Mathlib.Omega.{arith}
use lib.ListN.{length}
use lib.Dec.{eqb}
use lib.Ieee.{Float}
use Rattle.scope.specs.declared.records.Point.{Point}
use Rattle.scope.specs.declared.records.FacePoints.{FacePoints}
use Rattle.scope.specs.declared.records.FacePoints.TheVariants.{Centre, Pair}
use Rattle.scope.specs.Point.{add_p}
use Rattle.scope.specs.Rules.{loop_rim, sqrt_rim, sqrt_pair}
use Rattle.scope.specs.Weights.{loop_rows, sqrt_rows}
use Rattle.scope.specs.Lists.{if, only, range}
use Rattle.scope.specs.Links.{Links, NONE, partner, face, head, next, prev, out, tail, rim_edge, rim_vertex, around}
use Rattle.scope.specs.Passes.{rim_side}
use Rattle.scope.specs.Points.{point_at, flat, plus, heads, face_point, catmull_edge, catmull_rim, catmull_inner, catmull_vertex, catmull_points, inner, on_rim, loop_edge_point, loop_vertex, loop_points, sqrt_vertex, sqrt_answer, given, answers, sqrt_points}
use Rattle.scope.specs.Call.{Scheme, points}
use Rattle.points.proofs.Through.{Through, nans, Each, EachAnswer, zero-each, add-each, over-each, middle-each, cc-edge-each, cc-inner-each, loop-edge-each, loop-rim-each, weighted-each, sqrt-rim-each, sqrt-pair-each}

-- two lists of points, related one by one
pub data Pairs (R S T : Float → Float → Type 0) : List Point → List Point → Type 0 where
  done : Pairs R S T [] []
  pair : {p q : Point} {ps qs : List Point} → Each R S T p q → Pairs R S T ps qs → Pairs R S T (p ∷ ps) (q ∷ qs)

-- two sets of points, related vertex by vertex
pub record All (R S T : Float → Float → Type 0) (ps qs : List Float) : Type 0 where
  pub at : (v : ℕ) → Each R S T (point_at ps v) (point_at qs v)

either : {A : Type 0} (P : A → A → Type 0) (b : Bool) {x x' y y' : A} → P x x' → P y y' → P (if b x y) (if b x' y')
either P true h k = h
either P false h k = k

-- ---- sqrt3: the two cases of a face's answer
pub answer-centre : (flag : Bool) (m : Links) (ps : List Float) (f : ℕ) → if flag (rim_side f m) None ≡ None →
    sqrt_answer flag m ps f ≡ Centre (face_point m ps f)
unfolding sqrt_answer
answer-centre flag m ps f e = rw (e, sqrt_answer)

pub answer-pair : (flag : Bool) (m : Links) (ps : List Float) (f h : ℕ) → if flag (rim_side f m) None ≡ Some h →
    sqrt_answer flag m ps f ≡ sqrt_pair (point_at ps (head m (next m (partner h)))) (point_at ps (head m (partner h))) (point_at ps (tail m (partner h))) (point_at ps (tail m (prev m (partner h))))
unfolding sqrt_answer
answer-pair flag m ps f h e = rw (e, sqrt_answer)

module _ (R S T : Float → Float → Type 0) (r : Through R) (s : Through S) (t : Through T) where
  plus-each : {p q : Point} {ps qs : List Point} → Each R S T p q → Pairs R S T ps qs → Each R S T (plus p ps) (plus q qs)
  unfolding plus
  plus-each h done = h
  plus-each {p = p} {q = q} h (pair {p = p'} {q = q'} e l) = plus-each {p = add_p p p'} {q = add_p q q'} (add-each R S T r s t h e) l

  map_each : (f g : ℕ → Point) → ((x : ℕ) → Each R S T (f x) (g x)) → (l : List ℕ) → Pairs R S T (map f l) (map g l)
  map_each f g h [] = done
  map_each f g h (x ∷ l) = pair (h x) (map_each f g h l)

  append-each : {ps qs us vs : List Point} → Pairs R S T ps qs → Pairs R S T us vs → Pairs R S T (ps ++ us) (qs ++ vs)
  append-each done k = k
  append-each (pair e l) k = pair e (append-each l k)

  -- a list that holds points holds them in its numbers
  flat-each : {ps qs : List Point} → Pairs R S T ps qs → (v : ℕ) → Each R S T (point_at (flat ps) v) (point_at (flat qs) v)
  unfolding flat
  flat-each done v = record { at_x = nans r; at_y = nans s; at-z = nans t }
  flat-each (pair e l) zero = record { at_x = e.at_x; at_y = e.at_y; at-z = e.at-z }
  flat-each (pair e l) (suc v) =
      let i : 3 * suc v ≡ suc (suc (suc (3 * v))) = omega arith in
      let j : 3 * suc v + 1 ≡ suc (suc (suc (3 * v + 1))) = omega arith in
      let k : 3 * suc v + 2 ≡ suc (suc (suc (3 * v + 2))) = omega arith in
      rw (j, k, i) (flat-each l v)

  module _ (m : Links) (ps qs : List Float) (all : All R S T ps qs) where
    heads-each : (hs : List ℕ) → Each R S T (heads m ps hs) (heads m qs hs)
    unfolding heads
    heads-each hs = plus-each (zero-each R S T r s t) (map_each _ _ (λ h. all.at (head m h)) hs)

    pub face-each : (f : ℕ) → Each R S T (face_point m ps f) (face_point m qs f)
    unfolding face_point
    face-each f = over-each R S T r s t _ (heads-each _)

    -- ---- Catmull-Clark
    cc-edge : (update : Bool) (e : ℕ) → Each R S T (catmull_edge update m ps e) (catmull_edge update m qs e)
    unfolding catmull_edge
    cc-edge update e =
        either (Each R S T) (update && not (rim_edge m e))
        (cc-edge-each R S T r s t (all.at _) (all.at _) (face-each _) (face-each _))
        (middle-each R S T r s t (all.at _) (all.at _))

    cc-rim : (v : ℕ) → Each R S T (catmull_rim m ps v) (catmull_rim m qs v)
    unfolding catmull_rim
    cc-rim v =
        let es = only (rim_edge m) (map (λ h. h / 2) (around m v)) in
        over-each R S T r s t _ (plus-each (all.at v) (map_each (catmull_edge true m ps) (catmull_edge true m qs) (cc-edge true) es))

    cc-inner : (v : ℕ) → Each R S T (catmull_inner m ps v) (catmull_inner m qs v)
    unfolding catmull_inner
    cc-inner v =
        let hs = around m v in
        cc-inner-each R S T r s t (length hs)
        (plus-each (zero-each R S T r s t) (map_each (λ h. face_point m ps (face m h)) (λ h. face_point m qs (face m h)) (λ h. face-each (face m h)) hs))
        (heads-each hs)
        (all.at v)

    cc-vertex : (update : Bool) (v : ℕ) → Each R S T (catmull_vertex update m ps v) (catmull_vertex update m qs v)
    unfolding catmull_vertex
    cc-vertex update v = either (Each R S T) update (either (Each R S T) (rim_vertex m v) (cc-rim v) (cc-inner v)) (all.at v)

    pub catmull-each : (update : Bool) → All R S T (catmull_points update m ps) (catmull_points update m qs)
    unfolding catmull_points
    catmull-each update = record {
      at = flat-each
          (append-each
          (append-each (map_each _ _ (cc-vertex update) (range 0 m.nv)) (map_each _ _ (cc-edge update) (range 0 m.ne)))
          (map_each _ _ face-each (range 0 m.nf)));
    }

    -- ---- Loop and sqrt3
    inner-each : (rows : List (ℕ × ℕ)) (v : ℕ) → Each R S T (inner rows m ps v) (inner rows m qs v)
    unfolding inner
    inner-each rows v = weighted-each R S T r s t _ _ (heads-each _) (all.at v)

    module _ (rule : Point → Point → Point → Point)
        (rule-each : (p p' a a' b b' : Point) → Each R S T p p' → Each R S T a a' → Each R S T b b' → Each R S T (rule p a b) (rule p' a' b')) where
      on-rim-each : (v : ℕ) → Each R S T (on_rim rule m ps v) (on_rim rule m qs v)
      unfolding on_rim
      on-rim-each v = either (Each R S T) (eqb (out m v) NONE) (all.at v) (rule-each _ _ _ _ _ _ (all.at v) (all.at _) (all.at _))

    loop-edge : (update : Bool) (e : ℕ) → Each R S T (loop_edge_point update m ps e) (loop_edge_point update m qs e)
    unfolding loop_edge_point
    loop-edge update e =
        either (Each R S T) (update && not (rim_edge m e))
        (loop-edge-each R S T r s t (all.at _) (all.at _) (all.at _) (all.at _))
        (middle-each R S T r s t (all.at _) (all.at _))

    loop-vertex : (update : Bool) (v : ℕ) → Each R S T (loop_vertex update m ps v) (loop_vertex update m qs v)
    unfolding loop_vertex
    loop-vertex update v =
        either (Each R S T) update
        (either (Each R S T) (rim_vertex m v) (on-rim-each loop_rim (λ p p' a a' b b'. loop-rim-each R S T r s t) v) (inner-each loop_rows v))
        (all.at v)

    pub loop-each : (update : Bool) → All R S T (loop_points update m ps) (loop_points update m qs)
    unfolding loop_points
    loop-each update = record {
      at = flat-each (append-each (map_each _ _ (loop-vertex update) (range 0 m.nv)) (map_each _ _ (loop-edge update) (range 0 m.ne)));
    }

    sqrt-vertex : (flag : Bool) (v : ℕ) → Each R S T (sqrt_vertex flag m ps v) (sqrt_vertex flag m qs v)
    unfolding sqrt_vertex
    sqrt-vertex flag v =
        either (Each R S T) (rim_vertex m v)
        (either (Each R S T) flag (on-rim-each sqrt_rim (λ p p' a a' b b'. sqrt-rim-each R S T r s t) v) (all.at v))
        (inner-each sqrt_rows v)

    answer-each : (flag : Bool) (f : ℕ) → EachAnswer R S T (sqrt_answer flag m ps f) (sqrt_answer flag m qs f)
    answer-each flag f = go (if flag (rim_side f m) None) refl
      where
        go : (o : Option ℕ) → if flag (rim_side f m) None ≡ o → EachAnswer R S T (sqrt_answer flag m ps f) (sqrt_answer flag m qs f)
        go None e = rw (answer-centre flag m ps f e, answer-centre flag m qs f e) (face-each f)
        go (Some h) e =
            rw (answer-pair flag m ps f h e, answer-pair flag m qs f h e) (sqrt-pair-each R S T r s t (all.at _) (all.at _) (all.at _) (all.at _))

    given-each : (a b : FacePoints) → EachAnswer R S T a b → Pairs R S T (given a) (given b)
    given-each (Centre p) (Centre q) h = pair h done
    given-each (Centre p) (Pair u v) h = elim h [ ]
    given-each (Pair p q) (Centre _) h = elim h [ ]
    given-each (Pair p q) (Pair u v) h = pair h.0 (pair h.1 done)

    answers-each : (flag : Bool) (fs : List ℕ) → Pairs R S T (answers flag m ps fs) (answers flag m qs fs)
    unfolding answers
    answers-each flag [] = done
    answers-each flag (f ∷ fs) = append-each (given-each (sqrt_answer flag m ps f) (sqrt_answer flag m qs f) (answer-each flag f)) (answers-each flag fs)

    pub sqrt-each : (flag : Bool) → All R S T (sqrt_points flag m ps) (sqrt_points flag m qs)
    unfolding sqrt_points
    sqrt-each flag = record {
      at = flat-each (append-each (map_each _ _ (sqrt-vertex flag) (range 0 m.nv)) (answers-each flag (range 0 m.nf)));
    }

  -- ---- any number of passes of a scheme whose pass the relation goes through
  module _ (Sch : Scheme)
      (pass-each : (flag : Bool) (m : Links) (ps qs : List Float) → All R S T ps qs → All R S T (Sch.smooth flag m ps) (Sch.smooth flag m qs)) where
    pub points-each : (k : ℕ) (flag : Bool) (m : Links) (ps qs : List Float) → All R S T ps qs → All R S T (points Sch k flag m ps) (points Sch k flag m qs)
    unfolding points
    points-each zero flag m ps qs all = all
    points-each (suc k) flag m ps qs all = points-each k (Sch.turn flag) (Sch.pass flag m) _ _ (pass-each flag m ps qs all)
