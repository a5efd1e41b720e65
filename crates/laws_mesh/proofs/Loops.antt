-- Scope's loops as lists: a loop lists what next meets, once each, and is as long as the cycle. Assumes nothing.
use mathlib.Core.Path.{◌≡◌, refl, sym, ap, ◌∙◌, subst⁻¹}
use mathlib.Core.Logic.{◌≢◌}
use mathlib.Core.List.{List, [], ◌∷◌}
use Prim.Native.Nat.{ℕ, zero, suc, ◌*◌, ◌≤◌, ◌<◌}
use native.Mathlib.Nat.{not-suc-le-zero}
use native.Mathlib.Decide.{dec_lt}
use native.Mathlib.Omega.{arith}
use lib.ListN.{length}
use Rattle.scope.specs.Lists.{round}
use Rattle.scope.specs.Links.{Links, NONE, next, start, loop}
use Rattle.laws_mesh.specs.Reach.{Reach, iter}
use Rattle.laws_mesh.specs.Mesh.{Mesh, Shape, Core, Consistent}
use Rattle.laws_mesh.specs.Of.{mesh, Good}
use Rattle.laws_mesh.proofs.Cycle.{Perm, if-eq, if-ne, iter-front, iter-in, reach-ind, period}
use Rattle.laws_mesh.proofs.Count.{Length, length-of}
use Rattle.laws_mesh.proofs.Facts.{perm-next, next-ne}
use Rattle.laws_mesh.proofs.Shapes.{shape-mesh, size-mesh}

-- a cycle is as long from any place in it
pub length-around : {P : ℕ → Type 0} {n : ℕ} {f g : ℕ → ℕ} → Perm P n f g → {a b k : ℕ} → P a → Length f a k → Reach f a b → Length f b k
length-around {P} {n} {f} {g} m {a} {b} {k} p l r = (reach-ind (λ (b : ℕ). P b × Length f b k) (λ x (i, q). (m.fore x i, on x i q)) (p, l) r).1
  where
    on : (x : ℕ) → P x → Length f x k → Length f (f x) k
    on x i q = record {
      long = q.long;
      closes = sym (iter-front f x k) ∙ ap f q.closes;
      no-sooner = λ j u w e. q.no-sooner j u w (sym (m.gf (iter f j x) (iter-in m i j)) ∙ ap g (iter-front f x j ∙ e) ∙ m.gf x i);
    }

-- a good mesh has a shape
pub good-shape : (m : Links) → Good m → Shape (mesh m)
good-shape m g = shape-mesh m g.sized.few_e g.sized.few_f

pub good-size : (m : Links) (g : Good m) → (good-shape m g).size ≡ 2 * m.ne
unfolding good-shape
good-size m g = size-mesh m g.sized.few_e g.sized.few_f

-- x and what comes after it, k of them
unfoldable pub steps : (ℕ → ℕ) → ℕ → ℕ → List ℕ
steps f x zero = []
steps f x (suc k) = x ∷ steps f (f x) k

pub length-steps : (f : ℕ → ℕ) (x k : ℕ) → length (steps f x k) ≡ k
unfolding steps
length-steps f x zero = refl
length-steps f x (suc k) = ap suc (length-steps f (f x) k)

-- a round that comes back to s after j + 1 steps
pub round-steps : (s : ℕ) (f : ℕ → ℕ) (n j x : ℕ) → j < n → iter f (suc j) x ≡ s → ((i : ℕ) → i < j → iter f (suc i) x ≢ s) → round s f n x ≡ steps f x (suc j)
unfolding round steps
round-steps s f zero j x l e away = absurd (not-suc-le-zero l)
round-steps s f (suc n) zero x l e away = ap (λ (r : List ℕ). x ∷ r) (if-eq (f x) s [] (round s f n (f x)) e)
round-steps s f (suc n) (suc j) x l e away =
    ap (λ (r : List ℕ). x ∷ r) (
    if-ne (f x) s [] (round s f n (f x)) (away 0 (omega arith))
    ∙ round-steps s f n j (f x) (omega arith) (sym (iter-front f x (suc j)) ∙ e) (λ i h q. away (suc i) (omega arith) (iter-front f x (suc i) ∙ q))
    )

-- a cycle of no more than n
pub round-cycle : (f : ℕ → ℕ) (n a k : ℕ) → Length f a k → k ≤ n → round a f n a ≡ steps f a k
round-cycle f n a zero l h = absurd (not-suc-le-zero l.long)
round-cycle f n a (suc k) l h = round-steps a f n k a h l.closes (λ i u. l.no-sooner (suc i) (omega arith) (omega arith))

-- ---- loops

-- a face's loop is of three or more
pub length_three : (m : Mesh) → Shape m → Consistent m → (a k : ℕ) → m.is_h a → m.face a ≢ NONE → Length m.next a k → 3 ≤ k
length_three m s q a zero i r l = absurd (not-suc-le-zero l.long)
length_three m s q a (suc zero) i r l = absurd (next-ne s q.core a i l.closes)
length_three m s q a (suc (suc zero)) i r l = absurd (q.three.three_long a i r l.closes)
length_three m s q a (suc (suc (suc k))) i r l = omega arith

-- and of no more than all halfedges
pub length_most : (m : Mesh) (s : Shape m) → Core m → (a k : ℕ) → m.is_h a → Length m.next a k → k ≤ s.size
length_most m s c a k i l = go (period (perm-next s c) i)
  where
    go : (j : ℕ) × (j < s.size) × (iter m.next (suc j) a ≡ a) → k ≤ s.size
    go (j, u, e) = at_least (dec_lt (suc j) k)
      where
        at_least : Dec (suc j < k) → k ≤ s.size
        at_least (yes p) = absurd (l.no-sooner (suc j) (omega arith) p e)
        at_least (no p) = omega arith

module _ (m : Links) (g : Good m) where
  -- the loop of h lists its cycle
  pub loop-steps : (h k : ℕ) → h < 2 * m.ne → Length (next m) h k → loop m h ≡ steps (next m) h k
  unfolding loop
  loop-steps h k i l =
      let q = length_most (mesh m) (good-shape m g) g.consistent.core h k i l in
      let w = good-size m g in
      round-cycle (next m) (2 * m.ne) h k l (omega arith)

  -- and is as long
  pub loop-length : (h k : ℕ) → h < 2 * m.ne → Length (next m) h k → length (loop m h) ≡ k
  loop-length h k i l = ap length (loop-steps h k i l) ∙ length-steps (next m) h k

  pub loop-cycle : (h : ℕ) → h < 2 * m.ne → Length (next m) h (length (loop m h))
  loop-cycle h i =
      let (k, _, l) = length-of (perm-next (good-shape m g) g.consistent.core) i in
      subst⁻¹ (Length (next m) h) (loop-length h k i l) l

  -- a face has three halfedges or more
  pub face-three : (f : ℕ) → f < m.nf → 3 ≤ length (loop m (start m f))
  face-three f i =
      let c = g.consistent.core in
      length_three (mesh m) (good-shape m g) g.consistent (start m f) (length (loop m (start m f))) (c.start_in f i)
      (λ q. (good-shape m g).F-none f i (sym (c.start_bears f i) ∙ q)) (loop-cycle (start m f) (c.start_in f i))
