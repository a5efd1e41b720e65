-- A face's answer under sqrt3 by cases, as the code takes them, and the answers laid one behind the other. Assumes nothing.
use Prim.Native.Nat.{ℕ, zero, suc, ◌+◌, ◌*◌, ◌≤◌, ◌<◌}
use mathlib.Core.Path.{◌≡◌, refl, sym, ap, ◌∙◌}
use mathlib.Core.Bool.{Bool, true, false}
use mathlib.Core.List.{List, [], ◌∷◌, ◌++◌, append_assoc, append-nil}
use Rattle.std.specs.Prelude.{Option, None, Some}
use native.Mathlib.Nat.{zero-add}
use native.Mathlib.Numerals.{add-one}
use native.Mathlib.Omega.{arith}
use lib.Dec.{eqb}
use lib.ListN.{length, length-append}
use lib.Ieee.{Float}
use Rattle.scope.specs.declared.records.Point.{Point}
use Rattle.scope.specs.declared.records.Counts.{Counts}
use Rattle.scope.specs.declared.records.FacePoints.{FacePoints}
use Rattle.scope.specs.declared.records.FacePoints.TheVariants.{Centre, Pair}
use Rattle.scope.specs.Lists.{if, range, round}
use Rattle.scope.specs.Links.{Links, loop}
use Rattle.scope.specs.Passes.{rim_side}
use Rattle.scope.specs.Points.{flat, given, face_point, sqrt_answer, answers}
use Rattle.mesh.specs.Words.{link_at, next_at}
use Rattle.mesh.specs.Rounds.{loop_at, side_at, first_of}
use Rattle.mesh.proofs.RoundLaws.{rim-of}
use Rattle.points.proofs.PassThrough.{answer-centre, answer-pair}
use Rattle.points_catmull.specs.Place.{place}
use Rattle.points_catmull.specs.Sums.{Halves, mesh_of}
use Rattle.points_catmull.proofs.PlaceLaws.{place-nil, flat-next, range-next, length-range}
use Rattle.points_triangles.specs.Faces.{pair_on, put_given}

-- ---- the first rim side
side-is : (c : Counts) (es fs : List ℕ) (f : ℕ) → rim_side f (mesh_of c [] es fs) ≡ first_of (side_at es) (loop_at es c.e (link_at fs f))
unfolding rim_side loop
side-is c es fs f = rim-of (mesh_of c [] es fs) (loop_at es c.e (link_at fs f))

-- what is found was met
module _ (test : ℕ → Bool) (s : ℕ) (step : ℕ → ℕ) (b h : ℕ) (on : (k : ℕ) → k < b → step k < b) where
  here_or_on : (n x : ℕ) → x < b → (first_of test (round s step n (step x)) ≡ Some h → h < b) → first_of test (round s step (suc n) x) ≡ Some h → h < b
  unfolding round first_of
  here_or_on n x l r e = go (test x) refl
    where
      past : (d : Bool) → eqb (step x) s ≡ d → test x ≡ false → h < b
      past true q t = let z : None ≡ Some h = rw (t, q) at e in absurd (let y : ◌≡◌ {A = ℕ} 0 1 = cc in omega arith)
      past false q t = r (rw (t, q) at e)

      go : (d : Bool) → test x ≡ d → h < b
      go true t = let z : Some x ≡ Some h = rw t at e in let y : x ≡ h = cc in omega arith
      go false t = past (eqb (step x) s) refl t

  first-met : (n x : ℕ) → x < b → first_of test (round s step n x) ≡ Some h → h < b
  unfolding round first_of
  first-met zero x l e = absurd (let y : ◌≡◌ {A = ℕ} 0 1 = cc in omega arith)
  first-met (suc n) x l e = here_or_on n x l (λ q. first-met n (step x) (on x l) q) e

pub side-lt : (c : Counts) (es : List ℕ) → Halves c es → (s : ℕ) → s < 2 * c.e → (h : ℕ) {r : Option ℕ} → r ≡ first_of (side_at es) (loop_at es c.e s) → r ≡ Some h → h < 2 * c.e
side-lt c es hs s l h e a = first-met (side_at es) s (next_at es) (2 * c.e) h (λ k b. hs.next_in k b) (2 * c.e) s l (sym e ∙ a)

-- ---- a face's answer
module _ (c : Counts) (es fs : List ℕ) (ps : List Float) (f : ℕ) {flag : Bool} where
  pub answer-still : {p : Point} → flag ≡ false → p ≡ face_point (mesh_of c [] es fs) ps f → Centre p ≡ sqrt_answer flag (mesh_of c [] es fs) ps f
  answer-still u e =
      let n : if flag (rim_side f (mesh_of c [] es fs)) None ≡ None = rw u in
      ap Centre e ∙ sym (answer-centre flag (mesh_of c [] es fs) ps f n)

  module _ {s : ℕ} {r : Option ℕ} (u : flag ≡ true) (hs : s ≡ link_at fs f) (hr : r ≡ first_of (side_at es) (loop_at es c.e s)) where
    pub answer-none : {p : Point} → r ≡ None → p ≡ face_point (mesh_of c [] es fs) ps f → Centre p ≡ sqrt_answer flag (mesh_of c [] es fs) ps f
    answer-none a e =
        let o : first_of (side_at es) (loop_at es c.e (link_at fs f)) ≡ None = rw hs at (sym hr ∙ a) in
        let n : if flag (rim_side f (mesh_of c [] es fs)) None ≡ None = rw u (side-is c es fs f ∙ o) in
        ap Centre e ∙ sym (answer-centre flag (mesh_of c [] es fs) ps f n)

    pub answer-rim : (h : ℕ) {q : FacePoints} → r ≡ Some h → q ≡ pair_on (mesh_of c [] es []) ps h → q ≡ sqrt_answer flag (mesh_of c [] es fs) ps f
    unfolding pair_on
    answer-rim h a e =
        let o : first_of (side_at es) (loop_at es c.e (link_at fs f)) ≡ Some h = rw hs at (sym hr ∙ a) in
        let n : if flag (rim_side f (mesh_of c [] es fs)) None ≡ Some h = rw u (side-is c es fs f ∙ o) in
        e ∙ sym (answer-pair flag (mesh_of c [] es fs) ps f h n)

-- ---- one answer more
given-few : (a : FacePoints) → length (given a) ≤ 2
given-few (Centre p) = omega arith
given-few (Pair p q) = omega arith

given-next : (s : ℕ) (l : List Point) (w : List Float) (at : ℕ) (a : FacePoints) → at ≡ s + length l → 3 * at + 5 < length w →
    put_given (place (3 * s) (flat l) w) at a ≡ place (3 * s) (flat (l ++ given a)) w
given-next s l w at (Centre p) e h = flat-next s l w at p e (omega arith)
given-next s l w at (Pair p q) e h =
    let n : at + 1 ≡ s + length (l ++ p ∷ []) = rw (length-append l (p ∷ [])) (omega arith) in
    rw (flat-next s l w at p e (omega arith)) (flat-next s (l ++ p ∷ []) w (at + 1) q n (omega arith))
    ∙ ap (λ (r : List Point). place (3 * s) (flat r) w) (append_assoc l (p ∷ []) (q ∷ []))

module _ (flag : Bool) (m : Links) (ps : List Float) where
  answers-append : (a b : List ℕ) → answers flag m ps (a ++ b) ≡ answers flag m ps a ++ answers flag m ps b
  unfolding answers
  answers-append [] b = refl
  answers-append (x ∷ a) b = rw (answers-append a b) (sym (append_assoc (given (sqrt_answer flag m ps x)) (answers flag m ps a) (answers flag m ps b)))

  answers_next : (f : ℕ) → answers flag m ps (range 0 (f + 1)) ≡ answers flag m ps (range 0 f) ++ given (sqrt_answer flag m ps f)
  unfolding answers
  answers_next f = rw (add-one f, range-next 0 f, zero-add f) (answers-append (range 0 f) (f ∷ []) ∙ rw (append-nil (given (sqrt_answer flag m ps f))))

  few : (l : List ℕ) → length (answers flag m ps l) ≤ 2 * length l
  unfolding answers
  few [] = omega arith
  few (x ∷ l) =
      let a = given-few (sqrt_answer flag m ps x) in
      let b = few l in
      rw (length-append (given (sqrt_answer flag m ps x)) (answers flag m ps l)) (omega arith)

  -- the answers of the first f faces
  pub record Laid (v : ℕ) (w₀ : List Float) (f at : ℕ) (w : List Float) : Type 0 where
    pub behind : at ≡ v + length (answers flag m ps (range 0 f))
    pub content : w ≡ place (3 * v) (flat (answers flag m ps (range 0 f))) w₀

  pub none-laid : (v : ℕ) (w : List Float) {at : ℕ} → at ≡ v → Laid v w 0 at w
  unfolding range answers flat
  none-laid v w e = record { behind = omega arith; content = sym (place-nil (3 * v) w) }

  pub laid-few : {v f at : ℕ} {w₀ w : List Float} → Laid v w₀ f at w → at ≤ v + 2 * f
  laid-few {v} {f} d =
      let b = few (range 0 f) in
      let n = length-range 0 f in
      let e = d.behind in
      omega arith

  pub next-laid : {v f at at' : ℕ} {w₀ w w' : List Float} {a : FacePoints} → Laid v w₀ f at w → a ≡ sqrt_answer flag m ps f → at' ≡ at + length (given a) → w' ≡ put_given w at a →
      3 * at + 5 < length w₀ → Laid v w₀ (f + 1) at' w'
  next-laid {v} {f} {at} {at'} {w₀} {w} {w'} {a} d ha hat hw room =
      let l = answers flag m ps (range 0 f) in
      let n = answers_next f in
      let e = d.behind in
      record {
        behind = hat ∙ rw (n, ha, length-append l (given (sqrt_answer flag m ps f))) (omega arith);
        content = hw ∙ rw (d.content, n, ha) (given-next v l w₀ at (sqrt_answer flag m ps f) e room);
      }
