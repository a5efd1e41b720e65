-- While the faces are opened one after the other, a face still to come has the loop, the ends and the rim edge that it had at first. So what a pass does to a face is told by the mesh before the pass. Assumes nothing.
use mathlib.Core.Path.{◌≡◌, refl, sym, ap, ◌∙◌, subst, subst⁻¹}
use mathlib.Core.Logic.{◌≢◌}
use mathlib.Core.Bool.{Bool, true, false}
use mathlib.Core.List.{[], ◌∷◌}
use Rattle.std.specs.Prelude.{None}
use Prim.Native.Nat.{ℕ, ◌*◌, ◌≤◌, ◌<◌}
use native.Mathlib.Decide.{dec_lt}
use native.Mathlib.Omega.{arith}
use lib.Dec.{T}
use Rattle.scope.specs.Lists.{each}
use Rattle.scope.specs.Links.{Links, NONE, partner, face, head, next, start, rim, loop}
use Rattle.scope.specs.Passes.{rim_of, rim_side, sqrt_face}
use Rattle.scope.specs.Schemes.{two_rims}
use Rattle.scope.specs.Tally.{tally_of, sqrt_tally}
use Rattle.laws_mesh.specs.Mesh.{Core}
use Rattle.laws_mesh.specs.Of.{mesh, Good}
use Rattle.laws_mesh.specs.Sides.{Within, Triangles}
use Rattle.laws_mesh.proofs.Facts.{partner-lt}
use Rattle.laws_mesh.proofs.Loops.{good-shape}
use Rattle.laws_triangulate.proofs.Triangular.{Triangular, to-triangular}
use Rattle.laws_sqrt3.proofs.Rims.{three-list, rim-yes, rim-is}
use Rattle.laws_sqrt3.proofs.Spread.{Spread}
use Rattle.laws_sqrt3.proofs.Pass.{Any, Two, spread-false, spread-true}

module _ (m₀ m : Links) (Q : ℕ → Type 0) (f : ℕ) (g₀ : Good m₀) (tri : Triangular (mesh m₀)) (s : Spread m₀ m Q f) (h : ℕ) (l : f ≤ h) (i : h < m₀.nf) where
  c : Core (mesh m₀)
  c = g₀.consistent.core

  j : h < m.nf
  j = let q = s.nf_is in omega arith

  -- a halfedge of face h
  record Of (t : ℕ) : Type 0 where
    pub t-in : t < 2 * m₀.ne
    pub bears : face m₀ t ≡ h

  not_none : (t : ℕ) → Of t → face m₀ t ≢ NONE
  not_none t w q = (good-shape m₀ g₀).F-none h i (sym w.bears ∙ q)

  of-start : Of (start m₀ h)
  of-start = record { t-in = c.start_in h i; bears = c.start_bears h i }

  of-next : (t : ℕ) → Of t → Of (next m₀ t)
  of-next t w = record { t-in = c.next_in t w.t-in; bears = c.next_face t w.t-in ∙ w.bears }

  next-kept : (t : ℕ) → Of t → next m t ≡ next m₀ t
  next-kept t w = s.wait-next t w.t-in (let q = w.bears in omega arith) (not_none t w)

  head-kept : (t : ℕ) → t < 2 * m₀.ne → face m₀ t ≡ h → head m t ≡ head m₀ t
  head-kept t i e = s.wait-head t i (omega arith) (not_none t (record { t-in = i; bears = e }))

  loop-kept : loop m (start m h) ≡ loop m₀ (start m₀ h)
  loop-kept =
      let z = start m₀ h in
      let w = of-start in
      three-list m s.good s.tri h j
      ∙ (let q : start m h ∷ next m (start m h) ∷ next m (next m (start m h)) ∷ [] ≡ z ∷ next m₀ z ∷ next m₀ (next m₀ z) ∷ [] = cc (s.wait-start h l i, next-kept z w, next-kept (next m₀ z) (of-next z w)) in q)
      ∙ sym (three-list m₀ g₀ tri h i)

  -- a partner is on the rim now if it was
  rim-kept : (t : ℕ) → t < 2 * m₀.ne → rim m t ≡ rim m₀ t
  rim-kept t i = go (rim m t) (rim m₀ t) refl refl
    where
      then-rim : face m₀ t ≡ NONE → face m t ≡ NONE
      then-rim e = s.wait t i (let q = g₀.sized.few_f in omega arith) ∙ e

      now-rim : face m t ≡ NONE → face m₀ t ≡ NONE
      now-rim e = past (dec_lt (face m₀ t) f)
        where
          past : Dec (face m₀ t < f) → face m₀ t ≡ NONE
          past (yes q) = absurd ((s.done t i q).0 e)
          past (no q) = sym (s.wait t i (omega arith)) ∙ e

      go : (a b : Bool) → rim m t ≡ a → rim m₀ t ≡ b → a ≡ b
      go true true p q = refl
      go false false p q = refl
      go true false p q = absurd (subst T q (rim-yes m₀ t (now-rim (rim-is m t (subst⁻¹ T p tt)))))
      go false true p q = absurd (subst T p (rim-yes m t (then-rim (rim-is m₀ t (subst⁻¹ T q tt)))))

  side-kept : rim_side h m ≡ rim_side h m₀
  unfolding rim_side rim_of
  side-kept =
      let z = start m₀ h in
      let w = of-start in
      let w₁ = of-next z w in
      let w₂ = of-next (next m₀ z) w₁ in
      ap (rim_of m) (loop-kept ∙ three-list m₀ g₀ tri h i)
      ∙ (let q : rim_of m (z ∷ next m₀ z ∷ next m₀ (next m₀ z) ∷ []) ≡ rim_of m₀ (z ∷ next m₀ z ∷ next m₀ (next m₀ z) ∷ []) =
      cc (rim-kept (partner z) (partner-lt z m₀.ne w.t-in), rim-kept (partner (next m₀ z)) (partner-lt _ m₀.ne w₁.t-in), rim-kept (partner (next m₀ (next m₀ z))) (partner-lt _ m₀.ne w₂.t-in)) in q)
      ∙ ap (rim_of m₀) (sym (three-list m₀ g₀ tri h i))

-- face h of m is in l as it was: its loop, where its halfedges end, and its rim edge
pub record Still (m l : Links) (h : ℕ) : Type 0 where
  pub loop_is : loop l (start l h) ≡ loop m (start m h)
  pub head_is : (t : ℕ) → t < 2 * m.ne → face m t ≡ h → head l t ≡ head m t
  pub side-is : rim_side h l ≡ rim_side h m

-- as long as its turn has not come
module _ (m : Links) (g : Good m) (t : Triangles m) (f h : ℕ) (l : f ≤ h) (i : h < m.nf) where
  tri₀ : Triangular (mesh m)
  tri₀ = to-triangular m g t

  pub still : (flag : Bool) → (flag ≡ true → two_rims m ≡ None) → Within (sqrt_tally flag (tally_of m)) → Still m (each f (sqrt_face flag) m) h
  still false one w = let s = spread-false m g t w f (omega arith) in let n = each f (sqrt_face false) m in
      record { loop_is = loop-kept m n Any f g tri₀ s h l i; head_is = head-kept m n Any f g tri₀ s h l i; side-is = side-kept m n Any f g tri₀ s h l i }
  still true one w = let s = spread-true m g t (one refl) w f (omega arith) in let n = each f (sqrt_face true) m in
      record { loop_is = loop-kept m n (Two m) f g tri₀ s h l i; head_is = head-kept m n (Two m) f g tri₀ s h l i; side-is = side-kept m n (Two m) f g tri₀ s h l i }
