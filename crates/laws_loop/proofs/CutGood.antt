-- A corner cut off a face: halfedge h and the one after it, with a new edge, keep the face and become a triangle; the rest, one shorter, gets a new face. Assumes nothing.
use mathlib.Core.Path.{◌≡◌, refl, sym, ap, ◌∙◌}
use mathlib.Core.Logic.{◌⊎◌, inl, inr, ◌≢◌}
use Prim.Native.Nat.{ℕ, zero, suc, ◌+◌, ◌*◌, ◌≤◌, ◌<◌}
use native.Mathlib.Omega.{arith}
use Rattle.scope.specs.Links.{Links, NONE, face, next, prev}
use Rattle.scope.specs.Edits.{cut_off}
use Rattle.laws_mesh.specs.Reach.{iter}
use Rattle.laws_mesh.specs.Mesh.{Shape, Core}
use Rattle.laws_mesh.specs.Of.{mesh, Good}
use Rattle.laws_mesh.proofs.Cycle.{split, Perm, Part, iter-add, iter-reach, reach-ind}
use Rattle.laws_mesh.proofs.Count.{Length}
use Rattle.laws_mesh.proofs.Facts.{perm-next, next-ne, prev-face}
use Rattle.laws_mesh.proofs.Loops.{good-shape}
use Rattle.laws_mesh.proofs.LoopParts.{cycle-once}
use Rattle.laws_mesh.proofs.InsertEdge.{InsertEdge}
use Rattle.laws_mesh.proofs.InsertLaws.{Across, cut-off-is, cut-off-good, cut-off-counts}

module _ (m : Links) (g : Good m) (h j : ℕ) (h-in : h < 2 * m.ne) (faced : face m h ≢ NONE) (len : Length (next m) h (j + 3)) (more : 1 ≤ j)
    (room_e : m.ne + 1 ≤ 1048576) (room_f : m.nf + 1 ≤ 1048576) where
  s : Shape (mesh m)
  s = good-shape m g

  c : Core (mesh m)
  c = g.consistent.core

  perm : Perm (mesh m).is_h s.size (next m) (prev m)
  perm = perm-next s c

  -- the one after the corner
  x : ℕ
  x = next m (next m h)

  from-x : (i : ℕ) → iter (next m) i x ≡ iter (next m) (i + 2) h
  unfolding x
  from-x i = sym (iter-add (next m) h i 2)

  x-on : (i : ℕ) → iter (next m) i x < 2 * m.ne
  unfolding x
  x-on i = reach-ind (λ (y : ℕ). y < 2 * m.ne) c.next_in (c.next_in _ (c.next_in h h-in)) (iter-reach (next m) x i)

  -- j steps on comes the one before the corner
  meets : iter (next m) j x ≡ prev m h
  meets =
      sym (c.prev_next (iter (next m) j x) (x-on j))
      ∙ ap (prev m) (ap (next m) (from-x j) ∙ ap (λ (i : ℕ). iter (next m) i h) (let q : suc (j + 2) ≡ j + 3 = omega arith in q) ∙ len.closes)

  x-ne : (i k : ℕ) → i ≤ j → k < j + 3 → i + 2 ≢ k → iter (next m) i x ≢ iter (next m) k h
  x-ne i k u v ne e = ne (cycle-once perm h-in len (i + 2) k (omega arith) v (sym (from-x i) ∙ e))

  prev_is : prev m h ≡ iter (next m) (j + 2) h
  prev_is = sym meets ∙ from-x j

  first : (i : ℕ) → i < j → iter (next m) i x ≢ prev m h
  first i u e = x-ne i (j + 2) (omega arith) (omega arith) (omega arith) (e ∙ prev_is)

  h-prev : h ≢ prev m h
  h-prev e = len.no-sooner (j + 2) (omega arith) (omega arith) (sym (e ∙ prev_is))

  next_prev-ne : next m h ≢ prev m h
  next_prev-ne e = g.consistent.three.three_long h h-in faced (ap (next m) e ∙ c.next_prev h h-in)

  pub across : Across m (next m h) h j
  unfolding x
  across = record {
    p-in = c.next_in h h-in;
    n-in = h-in;
    faced = λ e. faced (sym (c.next_face h h-in) ∙ e);
    apart = next_prev-ne;
    meets = meets;
    first = first;
  }

  abbrev pub m' : Links
  m' = cut_off (next m h) h m

  r : InsertEdge (mesh m) (mesh m') (next m h) (prev m h) (2 * m.ne + 1) m.nf (Part (next m) (next m (next m h)) j)
  r = cut-off-is m g (next m h) h j across room_e room_f

  pub cut-counts : ((cut_off (next m h) h m).nv ≡ m.nv) × ((cut_off (next m h) h m).ne ≡ m.ne + 1) × ((cut_off (next m h) h m).nf ≡ m.nf + 1)
  cut-counts = cut-off-counts m g (next m h) h j across room_e room_f

  pub cut-good : Good (cut_off (next m h) h m)
  unfolding x
  cut-good = cut-off-good m g (next m h) h j across room_e room_f (first 0 (omega arith)) (λ e. next-ne s c h h-in (sym e))

  -- ---- the corner is a triangle
  next-h : next m' h ≡ next m h
  next-h = r.next-old h h-in (λ e. next-ne s c h h-in (sym e)) h-prev

  h-out : ¬ Part (next m) (next m (next m h)) j h
  unfolding Part x
  h-out (i, u, e) = x-ne i 0 u (omega arith) (omega arith) e

  pub face-h : face m' h ≡ face m h
  face-h = r.face-old h h-in h-out

  pub f_in : face m h < m.nf
  f_in = go (c.face_in h h-in)
    where
      go : (face m h ≡ NONE) ⊎ (face m h < m.nf) → face m h < m.nf
      go (inl e) = absurd (faced e)
      go (inr i) = i

  pub h-three : next m' (next m' (next m' h)) ≡ h
  h-three = ap (λ (y : ℕ). next m' (next m' y)) next-h ∙ ap (next m') r.next-w ∙ r.next-k ∙ c.next_prev h h-in

  -- ---- the rest
  pub cut-walk : (i : ℕ) → i ≤ j → iter (next (cut_off (next m h) h m)) i (next m (next m h)) ≡ iter (next m) i (next m (next m h))
  unfolding x
  cut-walk zero u = refl
  cut-walk (suc i) u = ap (next m') (cut-walk i (omega arith)) ∙ r.next-old (iter (next m) i x) (x-on i) (x-ne i 1 (omega arith) (omega arith) (omega arith)) (first i u)

  pub cut-x_in : next m (next m h) < 2 * (cut_off (next m h) h m).ne
  unfolding x
  cut-x_in = r.keep-H x (x-on 0)

  pub cut-x-face : face (cut_off (next m h) h m) (next m (next m h)) ≡ m.nf
  unfolding Part
  cut-x-face = r.face-part (next m (next m h)) (zero, omega arith, refl)

  to-c : iter (next m') (suc j) (next m (next m h)) ≡ 2 * m.ne + 1
  unfolding x
  to-c = ap (next m') (cut-walk j (omega arith) ∙ meets) ∙ r.next-y

  pub cut-rest : Length (next (cut_off (next m h) h m)) (next m (next m h)) (j + 2)
  unfolding x
  cut-rest = record {
    long = omega arith;
    closes = ap (λ (i : ℕ). iter (next m') i x) (let q : j + 2 ≡ suc (suc j) = omega arith in q) ∙ ap (next m') to-c ∙ r.next-c;
    no-sooner = λ i u v e. split i (suc j)
        (λ q. (let a = sym to-c ∙ ap (λ (k : ℕ). iter (next m') k x) (sym q) ∙ e in let b = x-on 0 in omega arith))
        (λ q. x-ne i 2 (omega arith) (omega arith) (omega arith) (sym (cut-walk i (omega arith)) ∙ e));
  }

  -- ---- other faces are as long as before
  off : (y : ℕ) → y < 2 * m.ne → face m y ≢ face m h → next m' y ≡ next m y
  off y i ne = r.next-old y i (λ e. ne (ap (face m) e ∙ c.next_face h h-in)) (λ e. ne (ap (face m) e ∙ prev-face s c h h-in))

  pub walk : (y : ℕ) → y < 2 * m.ne → face m y ≢ face m h → (i : ℕ) → iter (next m') i y ≡ iter (next m) i y
  walk y u ne zero = refl
  walk y u ne (suc i) =
      let (a, b) = reach-ind (λ (t : ℕ). (t < 2 * m.ne) × (face m t ≢ face m h)) (λ t (p, q). (c.next_in t p, λ e. q (sym (c.next_face t p) ∙ e))) (u, ne) (iter-reach (next m) y i) in
      ap (next m') (walk y u ne i) ∙ off (iter (next m) i y) a b
