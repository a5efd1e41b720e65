-- S, the sum of the face lengths, is the number of halfedges with a face; with b, the edges on the rim, it makes up all halfedges. Assumes nothing.
use mathlib.Core.Path.{◌≡◌, refl, sym, ap, ap₂, ◌∙◌, subst, subst⁻¹}
use mathlib.Core.Logic.{◌⊎◌, inl, inr, ◌≢◌}
use mathlib.Core.Bool.{Bool, true, false, not, ◌||◌}
use Prim.Native.Nat.{ℕ, zero, suc, ◌+◌, ◌*◌, ◌≤◌, ◌<◌}
use native.Mathlib.Nat.{not-suc-le-zero}
use native.Mathlib.Decide.{dec_lt}
use native.Mathlib.Omega.{arith}
use lib.Dec.{T, eqb, ltb, ltb→lt, lt→ltb, eqb→eq, eqb_refl}
use lib.ListN.{length}
use Rattle.scope.specs.Lists.{number_of, sum}
use Rattle.scope.specs.Links.{Links, NONE, face, start, rim, rim_edge, loop}
use Rattle.laws_mesh.specs.Count.{bit, count}
use Rattle.laws_mesh.specs.Mesh.{Shape, Core}
use Rattle.laws_mesh.specs.Of.{mesh, Good}
use Rattle.laws_mesh.proofs.Cycle.{split, reach-ind}
use Rattle.laws_mesh.proofs.Count.{bit-T, bit_not, count-cong, count_none, length-count}
use Rattle.laws_mesh.proofs.Facts.{perm-next, partner-even}
use Rattle.laws_mesh.proofs.Loops.{good-shape, good-size, loop-cycle}

-- ---- tests that are numbers

pub bit-eq : (x y : ℕ) → x ≡ y → bit (eqb x y) ≡ 1
bit-eq x y e = bit-T (eqb x y) (subst (λ (z : ℕ). T (eqb x z)) e (eqb_refl x))

pub bit-ne : (x y : ℕ) → x ≢ y → bit (eqb x y) ≡ 0
bit-ne x y n = bit_not (eqb x y) (λ t. n (eqb→eq x y t))

pub bit-lt : (x y : ℕ) → x < y → bit (ltb x y) ≡ 1
bit-lt x y l = bit-T (ltb x y) (lt→ltb x y l)

pub bit-ge : (x y : ℕ) → y ≤ x → bit (ltb x y) ≡ 0
bit-ge x y l = bit_not (ltb x y) (λ t. let q = ltb→lt x y t in omega arith)

pub bit-flip : (b : Bool) → bit b + bit (not b) ≡ 1
bit-flip true = refl
bit-flip false = refl

-- ---- sums

-- what passes one of two tests
pub count-both : (p q r : ℕ → Bool) (n : ℕ) → ((x : ℕ) → x < n → bit (p x) ≡ bit (q x) + bit (r x)) → count p n ≡ count q n + count r n
unfolding number_of
count-both p q r zero h = refl
count-both p q r (suc n) h = let a = count-both p q r n (λ x l. h x (omega arith)) in let b = h n (omega arith) in omega arith

pub sum-cong : (n : ℕ) (a b : ℕ → ℕ) → ((i : ℕ) → i < n → a i ≡ b i) → sum n a ≡ sum n b
unfolding sum
sum-cong zero a b h = refl
sum-cong (suc n) a b h = ap₂ ◌+◌ (sum-cong n a b (λ i l. h i (omega arith))) (h n (omega arith))

pub sum-all : (n c : ℕ) (a : ℕ → ℕ) → ((i : ℕ) → i < n → a i ≡ c) → sum n a ≡ c * n
unfolding sum
sum-all zero c a h = let z : 0 ≡ c * 0 = omega arith in z
sum-all (suc n) c a h = ap₂ ◌+◌ (sum-all n c a (λ i l. h i (omega arith))) (h n (omega arith)) ∙ (let z : c * n + c ≡ c * suc n = omega arith in z)

-- those whose g is below m, by the values of g
count-below : (g : ℕ → ℕ) (n m : ℕ) → count (λ t. ltb (g t) m) n ≡ sum m (λ i. count (λ t. eqb (g t) i) n)
unfolding sum
count-below g n zero = count_none (λ t. ltb (g t) zero) n (λ x l t. not-suc-le-zero (ltb→lt (g x) 0 t))
count-below g n (suc m) =
    count-both (λ t. ltb (g t) (suc m)) (λ t. ltb (g t) m) (λ t. eqb (g t) m) n (λ x l. each (g x))
    ∙ ap (λ (s : ℕ). s + count (λ t. eqb (g t) m) n) (count-below g n m)
  where
    each : (z : ℕ) → bit (ltb z (suc m)) ≡ bit (ltb z m) + bit (eqb z m)
    each z = split z m
        (λ e. let a = bit-lt z (suc m) (omega arith) in let b = bit-ge z m (omega arith) in let c = bit-eq z m e in omega arith)
        (λ n. under n (dec_lt z m))
      where
        under : z ≢ m → Dec (z < m) → bit (ltb z (suc m)) ≡ bit (ltb z m) + bit (eqb z m)
        under n (yes l) = let a = bit-lt z (suc m) (omega arith) in let b = bit-lt z m l in let c = bit-ne z m n in omega arith
        under n (no l) = let a = bit-ge z (suc m) (omega arith) in let b = bit-ge z m (omega arith) in let c = bit-ne z m n in omega arith

-- 2 n numbers, two at a time
count-pairs : (p q : ℕ → Bool) (n : ℕ) → ((e : ℕ) → e < n → bit (q e) ≡ bit (p (2 * e)) + bit (p (2 * e + 1))) → count q n ≡ count p (2 * n)
unfolding number_of
count-pairs p q zero h = refl
count-pairs p q (suc n) h =
    let a = count-pairs p q n (λ e l. h e (omega arith)) in
    let b = h n (omega arith) in
    let c : suc (2 * n) ≡ 2 * n + 1 = omega arith in
    let d : bit (p (suc (2 * n))) ≡ bit (p (2 * n + 1)) = ap (λ (x : ℕ). bit (p x)) c in
    let two : 2 * suc n ≡ suc (suc (2 * n)) = omega arith in
    (let r : number_of n q + bit (q n) ≡ number_of (2 * n) p + bit (p (2 * n)) + bit (p (suc (2 * n))) = omega arith in r)
    ∙ ap (λ (k : ℕ). number_of k p) (sym two)

count-every : (p : ℕ → Bool) (n : ℕ) → count p n + count (λ x. not (p x)) n ≡ n
unfolding number_of
count-every p zero = refl
count-every p (suc n) = let a = count-every p n in let b = bit-flip (p n) in omega arith

-- ---- in a consistent mesh
module _ (m : Links) (g : Good m) where
  c : Core (mesh m)
  c = g.consistent.core

  s : Shape (mesh m)
  s = good-shape m g

  few : (i : ℕ) → i < m.nf → i ≢ NONE
  few i u q = s.F-none i u q

  -- a face is as long as the halfedges that bear it are many
  pub bearing : (f : ℕ) → f < m.nf → length (loop m (start m f)) ≡ number_of (2 * m.ne) (λ t. eqb (face m t) f)
  unfolding s
  bearing f u =
      let si : start m f < 2 * m.ne = c.start_in f u in
      let sb : face m (start m f) ≡ f = c.start_bears f u in
      sym (subst (λ (n : ℕ). count (λ t. eqb (face m t) f) n ≡ length (loop m (start m f))) (good-size m g)
      (length-count (perm-next s c) (λ t. eqb (face m t) f) si (loop-cycle m g (start m f) si)
      (λ x w. let e = (reach-ind (λ (x : ℕ). (x < 2 * m.ne) × (face m x ≡ f)) (λ x q. (c.next_in x q.0, c.next_face x q.0 ∙ q.1)) (si, sb) w).1 in
      subst⁻¹ (λ (z : ℕ). T (eqb z f)) e (eqb_refl f))
      (λ x b w. c.one_loop (start m f) x si (subst (λ (n : ℕ). x < n) (good-size m g) b) (λ q. few f u (sym sb ∙ q)) (sb ∙ sym (eqb→eq (face m x) f w)))))

  -- S is the number of halfedges with a face
  pub corners : sum m.nf (λ f. length (loop m (start m f))) ≡ number_of (2 * m.ne) (λ h. not (rim m h))
  corners =
      sum-cong m.nf (λ f. length (loop m (start m f))) (λ f. count (λ t. eqb (face m t) f) (2 * m.ne)) bearing
      ∙ sym (count-below (face m) (2 * m.ne) m.nf)
      ∙ count-cong (λ t. ltb (face m t) m.nf) (λ h. not (rim m h)) (2 * m.ne) same
    where
      same : (t : ℕ) → t < 2 * m.ne → bit (ltb (face m t) m.nf) ≡ bit (not (rim m t))
      same t i = go (c.face_in t i)
        where
          go : (face m t ≡ NONE) ⊎ (face m t < m.nf) → bit (ltb (face m t) m.nf) ≡ bit (not (rim m t))
          go (inl q) =
              let a = bit-ge (face m t) m.nf (let w = g.sized.few_f in omega arith) in
              let b = bit-eq (face m t) NONE q in
              let d = bit-flip (rim m t) in
              omega arith
          go (inr q) =
              let a = bit-lt (face m t) m.nf q in
              let b = bit-ne (face m t) NONE (few (face m t) q) in
              let d = bit-flip (rim m t) in
              omega arith

  -- an edge has at most one rim halfedge
  rim-bit : (e : ℕ) → e < m.ne → bit (rim_edge m e) ≡ bit (rim m (2 * e)) + bit (rim m (2 * e + 1))
  rim-bit e i = split (face m (2 * e)) NONE
      (λ q. one (rim m (2 * e)) (rim m (2 * e + 1)) (bit-ne (face m (2 * e + 1)) NONE (λ z. c.a_face (2 * e) (omega arith) q (ap (face m) (partner-even e) ∙ z))))
      (λ q. two (rim m (2 * e)) (rim m (2 * e + 1)) (bit-ne (face m (2 * e)) NONE q))
    where
      one : (a b : Bool) → bit b ≡ 0 → bit (a || b) ≡ bit a + bit b
      one true true z = absurd (let q : 1 ≡ 0 = z in omega arith)
      one true false z = refl
      one false true z = refl
      one false false z = refl

      two : (a b : Bool) → bit a ≡ 0 → bit (a || b) ≡ bit a + bit b
      two true b z = absurd (let q : 1 ≡ 0 = z in omega arith)
      two false true z = refl
      two false false z = refl

  -- b + S is twice E
  pub rims-corners : number_of m.ne (rim_edge m) + sum m.nf (λ f. length (loop m (start m f))) ≡ 2 * m.ne
  rims-corners =
      let a = corners in
      let b = count-pairs (rim m) (rim_edge m) m.ne rim-bit in
      let d = count-every (rim m) (2 * m.ne) in
      omega arith
