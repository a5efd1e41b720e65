-- A sqrt3 pass makes a point for each vertex that it leaves. Assumes nothing.
use mathlib.Core.Path.{◌≡◌, refl, sym, ap}
use mathlib.Core.Bool.{Bool, true, false}
use mathlib.Core.List.{List, [], ◌++◌, map}
use Rattle.std.specs.Prelude.{Option, None, Some}
use Prim.Native.Nat.{ℕ, zero, suc, ◌+◌, ◌*◌}
use native.Mathlib.Omega.{arith}
use lib.ListN.{length, length-append, length-map}
use lib.Ieee.{Float}
use Rattle.scope.specs.declared.records.Point.{Point}
use Rattle.scope.specs.declared.records.FacePoints.{FacePoints}
use Rattle.scope.specs.declared.records.FacePoints.TheVariants.{Centre}
use Rattle.scope.specs.Rules.{sqrt_pair}
use Rattle.scope.specs.Lists.{range, if, number_of}
use Rattle.scope.specs.Links.{Links, partner, head, next, prev, tail, rim_edge}
use Rattle.scope.specs.Passes.{rim_side, sqrt_pass}
use Rattle.scope.specs.Schemes.{two_rims}
use Rattle.scope.specs.Tally.{tally_of, sqrt_tally}
use Rattle.scope.specs.Points.{point_at, face_point, given, sqrt_vertex, sqrt_answer, answers, sqrt_points}
use Rattle.laws_mesh.specs.Count.{bit}
use Rattle.laws_mesh.specs.Of.{Good}
use Rattle.laws_mesh.specs.Sides.{Within, Triangles}
use Rattle.laws_mesh.proofs.Count.{count_none}
use Rattle.laws_mesh.proofs.Lengths.{length-range, length-flat}
use Rattle.laws_sqrt3.specs.Rims.{there, rimmed}
use Rattle.laws_sqrt3.proofs.Rims.{rims-faces}
use Rattle.laws_sqrt3.proofs.Pass.{sqrt-vertices}

module _ (flag : Bool) (m : Links) (ps : List Float) where
  -- does face f get a pair
  abbrev pair : ℕ → Bool
  pair f = there (if flag (rim_side f m) None)

  given-long : (f : ℕ) → length (given (sqrt_answer flag m ps f)) ≡ 1 + bit (pair f)
  unfolding sqrt_answer sqrt_pair
  given-long f = go (face_point m ps f)
      (λ h. let r = partner h in sqrt_pair (point_at ps (head m (next m r))) (point_at ps (head m r)) (point_at ps (tail m r)) (point_at ps (tail m (prev m r)))) (if flag (rim_side f m) None) (λ h. refl)
    where
      go : (c : Point) (pairs : ℕ → FacePoints) (o : Option ℕ) → ((h : ℕ) → length (given (pairs h)) ≡ 2) → length (given (elim o [ None ↦ Centre c | Some h ↦ pairs h ])) ≡ 1 + bit (there o)
      go c pairs None l = refl
      go c pairs (Some h) l = l h

  answers-long : (k n : ℕ) → length (answers flag m ps (range k n)) + number_of k pair ≡ n + number_of (k + n) pair
  unfolding answers range number_of
  answers-long k zero = let e : number_of k pair ≡ number_of (k + zero) pair = ap (λ (j : ℕ). number_of j pair) (let q : k ≡ k + zero = omega arith in q) in omega arith
  answers-long k (suc n) =
      let a = length-append (given (sqrt_answer flag m ps k)) (answers flag m ps (range (suc k) n)) in
      let b = given-long k in
      let r = answers-long (suc k) n in
      let e : number_of (suc k + n) pair ≡ number_of (k + suc n) pair = ap (λ (j : ℕ). number_of j pair) (let q : suc k + n ≡ k + suc n = omega arith in q) in
      omega arith

  points-long : length (sqrt_points flag m ps) ≡ 3 * (m.nv + m.nf + number_of m.nf pair)
  unfolding sqrt_points number_of
  points-long =
      let vs = map (sqrt_vertex flag m ps) (range 0 m.nv) in
      let fs = answers flag m ps (range 0 m.nf) in
      let a = length-flat (vs ++ fs) in
      let b = length-append vs fs in
      let c = length-map (range 0 m.nv) (sqrt_vertex flag m ps) in
      let d = length-range 0 m.nv in
      let e = answers-long 0 m.nf in
      let f : number_of (0 + m.nf) pair ≡ number_of m.nf pair = ap (λ (j : ℕ). number_of j pair) (let q : 0 + m.nf ≡ m.nf = omega arith in q) in
      omega arith

-- as many pairs as rim edges, if the flag is true
pairs-are : (flag : Bool) (m : Links) → Good m → Triangles m → (flag ≡ true → two_rims m ≡ None) → number_of m.nf (pair flag m []) ≡ if flag (number_of m.ne (rim_edge m)) 0
unfolding rimmed
pairs-are false m g t one = count_none (pair false m []) m.nf (λ f i u. u)
pairs-are true m g t one = sym (rims-faces m g t (one refl))

-- three numbers for each vertex that the pass leaves
pub sqrt-points-long : (flag : Bool) (m : Links) (ps : List Float) → Good m → Triangles m → (flag ≡ true → two_rims m ≡ None) → Within (sqrt_tally flag (tally_of m))
    → length (sqrt_points flag m ps) ≡ 3 * (sqrt_pass flag m).nv
sqrt-points-long flag m ps g t one w =
    let a = points-long flag m ps in
    let b = pairs-are flag m g t one in
    let c = sqrt-vertices m g t flag one w in
    omega arith
