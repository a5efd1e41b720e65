-- One corner is cut off a face: what that does to the face's loop and to all others. Assumes nothing.
--
-- The loop goes p, a, x, …; a and x are cut off by the new halfedge c, which has the new face g. Its partner takes their place.
use mathlib.Core.Path.{◌≡◌, sym, ap, ◌∙◌, subst, subst⁻¹}
use mathlib.Core.Logic.{◌⊎◌, inl, inr, ◌≢◌}
use Prim.Native.Nat.{ℕ, zero, suc, ◌+◌, ◌≤◌, ◌<◌}
use native.Mathlib.Nat.{not-suc-le-zero}
use native.Mathlib.Omega.{arith}
use Rattle.scope.specs.Links.{NONE, partner}
use Rattle.laws_mesh.specs.Reach.{iter}
use Rattle.laws_mesh.specs.Mesh.{Mesh, Shape, Core, Consistent}
use Rattle.laws_mesh.proofs.Cycle.{split, cancel, iter-in, Perm}
use Rattle.laws_mesh.proofs.Count.{Length}
use Rattle.laws_mesh.proofs.Facts.{next-ne, perm-next}
use Rattle.laws_mesh.proofs.InsertEdge.{InsertEdge}

module _ {m m' : Mesh} {p a x c g : ℕ} {M : ℕ → Type 0} (s : Shape m) (k : Consistent m) (d : InsertEdge m m' p x c g M)
    (pa : m.next p ≡ a) (ax : m.next a ≡ x) (only : (t : ℕ) → M t → (t ≡ a) ⊎ (t ≡ x)) (in-a : M a) (faced : m.face p ≢ NONE) where
  C : Core m
  C = k.core

  p-in : m.is_h p
  p-in = d.w-in

  a_in : m.is_h a
  a_in = subst m.is_h pa (C.next_in p p-in)

  x_in : m.is_h x
  x_in = d.y_in

  a_face : m.face a ≡ m.face p
  a_face = ap m.face (sym pa) ∙ C.next_face p p-in

  x-face : m.face x ≡ m.face p
  x-face = ap m.face (sym ax) ∙ C.next_face a a_in ∙ a_face

  a≢x : a ≢ x
  a≢x e = next-ne s C a a_in (ax ∙ sym e)

  a≢p : a ≢ p
  a≢p e = next-ne s C p p-in (pa ∙ e)

  -- ---- the loop that is cut

  next-p : m'.next p ≡ partner c
  next-p = d.next-w

  next-k : m'.next (partner c) ≡ m.next x
  next-k = d.next-k

  steps-2 : iter m.next 2 p ≡ x
  steps-2 = ap m.next pa ∙ ax

  pm : Perm m.is_h s.size m.next m.prev
  pm = perm-next s C

  module _ (L : ℕ) (len : Length m.next p (suc L)) where
    -- the walk from p leaves out what was cut
    skips : (j : ℕ) → j + 3 ≤ suc L → iter m'.next (suc (suc j)) p ≡ iter m.next (suc (suc (suc j))) p
    skips zero l = ap m'.next next-p ∙ next-k ∙ ap m.next (sym steps-2)
    skips (suc j) l =
        let t = iter m.next (suc (suc (suc j))) p in
        ap m'.next (skips j (omega arith))
        ∙ d.next-old t (iter-in pm p-in (suc (suc (suc j)))) (len.no-sooner (suc (suc (suc j))) (omega arith) (omega arith))
        (λ q. len.no-sooner (suc j) (omega arith) (omega arith) (sym (cancel pm p-in 2 (suc j)
        (steps-2 ∙ sym q ∙ ap (λ (i : ℕ). iter m.next i p) (let w : suc (suc (suc j)) ≡ suc j + 2 = omega arith in w)))))

  -- it is one shorter
  pub cut-shorter : (L : ℕ) → 3 ≤ L → Length m.next p (suc L) → Length m'.next p L
  cut-shorter zero h len = absurd (not-suc-le-zero h)
  cut-shorter (suc zero) h len = absurd (let q : 3 ≤ 1 = h in omega arith)
  cut-shorter (suc (suc L)) h len = record { long = omega arith; closes = skips (suc (suc L)) len L (omega arith) ∙ len.closes; no-sooner = sooner }
    where
      sooner : (j : ℕ) → 0 < j → j < suc (suc L) → iter m'.next j p ≢ p
      sooner zero u w e = not-suc-le-zero u
      sooner (suc zero) u w e = d.k-new (subst⁻¹ m.is_h (sym next-p ∙ e) p-in)
      sooner (suc (suc j)) u w e = len.no-sooner (suc (suc (suc j))) (omega arith) (omega arith) (sym (skips (suc (suc L)) len j (omega arith)) ∙ e)

  p-out : ¬ M p
  p-out q = go (only p q)
    where
      go : (p ≡ a) ⊎ (p ≡ x) → ⊥
      go (inl e) = a≢p (sym e)
      go (inr e) = d.apart e

  pub cut-bears : m'.face p ≡ m.face p
  cut-bears = d.face-old p p-in p-out

  -- ---- the others

  off : (t : ℕ) → m.face t ≢ m.face p → ¬ M t
  off t e q = go (only t q)
    where
      go : (t ≡ a) ⊎ (t ≡ x) → ⊥
      go (inl z) = e (ap m.face z ∙ a_face)
      go (inr z) = e (ap m.face z ∙ x-face)

  pub cut-face-old : (t : ℕ) → m.is_h t → m.face t ≢ m.face p → m'.face t ≡ m.face t
  cut-face-old t i e = d.face-old t i (off t e)

  pub cut-next-old : (t : ℕ) → m.is_h t → m.face t ≢ m.face p → m'.next t ≡ m.next t
  cut-next-old t i e = d.next-old t i (λ q. e (ap m.face q)) (λ q. e (ap m.face q ∙ x-face))

  -- every halfedge is of the new triangle, of the face that was cut, or an old one of another
  pub cut-cases : (t : ℕ) → m'.is_h t → {P : Type 0} → (m'.face t ≡ g → m'.next (m'.next (m'.next t)) ≡ t → P) → (m'.face t ≡ m.face p → P) → (m.is_h t → m.face t ≢ m.face p → P) → P
  cut-cases t i {P} new mine rest = go (d.H-is t i)
    where
      at_a : m'.next a ≡ x
      at_a = d.next-old a a_in a≢p a≢x ∙ ax

      at_c : m'.next c ≡ a
      at_c = d.next-c ∙ pa

      go : m.is_h t ⊎ ((t ≡ c) ⊎ (t ≡ partner c)) → P
      go (inr (inl e)) = new (ap m'.face e ∙ d.face-c) (cc (at_a, d.next-y, at_c))
      go (inr (inr e)) = mine (ap m'.face e ∙ d.face-k)
      go (inl j) =
          split t a (λ e. new (ap m'.face e ∙ d.face-part a in-a) (cc (at_a, d.next-y, at_c)))
          (λ n₁. split t x (λ e. new (ap m'.face e ∙ d.face-part x d.part.last-in) (cc (at_a, d.next-y, at_c)))
          (λ n₂. split (m.face t) (m.face p) (λ e. mine (d.face-old t j (λ q. out n₁ n₂ (only t q)) ∙ e)) (λ e. rest j e)))
        where
          out : t ≢ a → t ≢ x → (t ≡ a) ⊎ (t ≡ x) → ⊥
          out u w (inl e) = u e
          out u w (inr e) = w e
