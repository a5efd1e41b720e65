-- The first half of a sqrt3 pass: the faces of a mesh of triangles are opened one after the other, each around one or two new vertices. Assumes nothing.
use mathlib.Core.Path.{◌≡◌, refl, sym, ap, ◌∙◌, subst, subst⁻¹}
use mathlib.Core.Logic.{◌⊎◌, inl, inr, ◌≢◌}
use Prim.Native.Nat.{ℕ, zero, suc, ◌+◌, ◌*◌, ◌≤◌, ◌<◌}
use native.Mathlib.Decide.{dec_lt}
use native.Mathlib.Omega.{arith}
use Rattle.scope.specs.Links.{Links, NONE, partner, face, head, next, start}
use Rattle.laws_mesh.specs.Mesh.{Core}
use Rattle.laws_mesh.specs.Of.{mesh, Good}
use Rattle.laws_mesh.proofs.Cycle.{split}
use Rattle.laws_mesh.proofs.Facts.{partner-lt, two-faces}
use Rattle.laws_mesh.proofs.Loops.{good-shape}
use Rattle.laws_triangulate.proofs.Triangular.{Triangular}

-- face f is opened: what an old halfedge of it is followed by ends at a new vertex, if Q says so of it; other faces stay
pub record Opened (m m' : Links) (f : ℕ) (Q : ℕ → Type 0) : Type 0 where
  pub good : Good m'
  pub tri : Triangular (mesh m')
  pub nv-lo : m.nv ≤ m'.nv
  pub ne-lo : m.ne ≤ m'.ne
  pub nf_is : m'.nf ≡ m.nf + 2
  pub off-face : (t : ℕ) → t < 2 * m.ne → face m t ≢ f → face m' t ≡ face m t
  pub off_next : (t : ℕ) → t < 2 * m.ne → face m t ≢ f → face m t ≢ NONE → next m' t ≡ next m t
  pub head_is : (t : ℕ) → t < 2 * m.ne → Q t ⊎ (face m t ≢ NONE) → head m' t ≡ head m t
  pub off-start : (h : ℕ) → h < m.nf → h ≢ f → start m' h ≡ start m h
  pub mine : (t : ℕ) → t < 2 * m.ne → face m t ≡ f → (face m' t ≡ f) ⊎ ((m.nf ≤ face m' t) × (face m' t ≢ NONE))
  pub tip : (t : ℕ) → t < 2 * m.ne → Q t → face m t ≡ f → m.nv ≤ head m' (next m' t)
  pub new : (t : ℕ) → t < 2 * m'.ne → 2 * m.ne ≤ t → (face m' t ≡ NONE) ⊎ ((face m' t ≡ f) ⊎ (m.nf ≤ face m' t))

-- an old halfedge on the rim was there before
pub opened-none : (m m' : Links) (f : ℕ) (Q : ℕ → Type 0) → Opened m m' f Q → f ≢ NONE → (t : ℕ) → t < 2 * m.ne → face m' t ≡ NONE → face m t ≡ NONE
opened-none m m' f Q o ne t i e = split (face m t) f (λ q. absurd (go (o.mine t i q))) (λ q. sym (o.off-face t i q) ∙ e)
  where
    go : (face m' t ≡ f) ⊎ ((m.nf ≤ face m' t) × (face m' t ≢ NONE)) → ⊥
    go (inl q) = ne (sym q ∙ e)
    go (inr (q, z)) = z e

-- after f of the faces of m₀; Q is asked of old halfedges only
pub record Spread (m₀ m : Links) (Q : ℕ → Type 0) (f : ℕ) : Type 0 where
  pub good : Good m
  pub tri : Triangular (mesh m)
  pub nv-lo : m₀.nv ≤ m.nv
  pub ne-lo : m₀.ne ≤ m.ne
  pub nf_is : m.nf ≡ m₀.nf + 2 * f
  pub wait : (t : ℕ) → t < 2 * m₀.ne → f ≤ face m₀ t → face m t ≡ face m₀ t
  pub wait-next : (t : ℕ) → t < 2 * m₀.ne → f ≤ face m₀ t → face m₀ t ≢ NONE → next m t ≡ next m₀ t
  pub wait-head : (t : ℕ) → t < 2 * m₀.ne → f ≤ face m₀ t → face m₀ t ≢ NONE → head m t ≡ head m₀ t
  pub wait-start : (h : ℕ) → f ≤ h → h < m₀.nf → start m h ≡ start m₀ h
  pub done : (t : ℕ) → t < 2 * m₀.ne → face m₀ t < f → (face m t ≢ NONE) × ((face m t < f) ⊎ (m₀.nf ≤ face m t))
  pub back : (t : ℕ) → t < 2 * m.ne → f ≤ face m t → face m t < m₀.nf → t < 2 * m₀.ne
  pub heads : (t : ℕ) → t < 2 * m₀.ne → Q t → head m t ≡ head m₀ t
  pub tips : (t : ℕ) → t < 2 * m₀.ne → Q t → face m₀ t < f → m₀.nv ≤ head m (next m t)
  pub apart : (t : ℕ) → t < 2 * m₀.ne → Q t → face m₀ t < f → face m₀ (partner t) < f
      → head m (next m t) ≢ head m (next m (partner t))

pub spread-here : (m : Links) (Q : ℕ → Type 0) → Good m → Triangular (mesh m) → Spread m m Q zero
spread-here m Q g t = record {
  good = g;
  tri = t;
  nv-lo = omega arith;
  ne-lo = omega arith;
  nf_is = omega arith;
  wait = λ t i u. refl;
  wait-next = λ t i u ne. refl;
  wait-head = λ t i u ne. refl;
  wait-start = λ h u i. refl;
  done = λ t i u. absurd (let q : face m t < 0 = u in omega arith);
  back = λ t i u w. i;
  heads = λ t i q. refl;
  tips = λ t i q u. absurd (let q : face m t < 0 = u in omega arith);
  apart = λ t i q u. absurd (let q : face m t < 0 = u in omega arith);
}

module _ (m₀ m m' : Links) (Q : ℕ → Type 0) (f : ℕ) (g₀ : Good m₀) (sym-Q : (t : ℕ) → Q t → Q (partner t))
    (s : Spread m₀ m Q f) (f_lt : f < m₀.nf) (Q₁ : ℕ → Type 0) (Q-to : (t : ℕ) → t < 2 * m₀.ne → Q t → Q₁ t) (o : Opened m m' f Q₁) where
  C : Core (mesh m)
  C = s.good.consistent.core

  F-few : m₀.nf ≤ 1048576
  F-few = g₀.sized.few_f

  up : (t : ℕ) → t < 2 * m₀.ne → t < 2 * m.ne
  up t i = let q = s.ne-lo in omega arith

  -- an old halfedge whose face was opened before
  past : (t : ℕ) → t < 2 * m₀.ne → face m₀ t < f → (face m t ≢ f) × (face m t ≢ NONE)
  past t i u = let (a, b) = s.done t i u in (go b, a)
    where
      go : (face m t < f) ⊎ (m₀.nf ≤ face m t) → face m t ≢ f
      go (inl q) e = omega arith
      go (inr q) e = omega arith

  -- and one whose face is f
  now : (t : ℕ) → t < 2 * m₀.ne → face m₀ t ≡ f → face m t ≡ f
  now t i e = s.wait t i (omega arith) ∙ e

  past-tip : (t : ℕ) → t < 2 * m₀.ne → face m₀ t < f → head m' (next m' t) ≡ head m (next m t)
  past-tip t i u =
      let (a, b) = past t i u in
      let ti = up t i in
      ap (head m') (o.off_next t ti a b) ∙ o.head_is (next m t) (C.next_in t ti) (inr (λ q. b (sym (C.next_face t ti) ∙ q)))

  wait' : (t : ℕ) → t < 2 * m₀.ne → suc f ≤ face m₀ t → face m' t ≡ face m₀ t
  wait' t i u = let w = s.wait t i (omega arith) in o.off-face t (up t i) (λ q. (let z : face m₀ t ≡ f = sym w ∙ q in omega arith)) ∙ w

  -- an old halfedge whose face is still to come
  later : (t : ℕ) → t < 2 * m₀.ne → suc f ≤ face m₀ t → face m₀ t ≢ NONE → (face m t ≢ f) × (face m t ≢ NONE)
  later t i u ne = let w = s.wait t i (omega arith) in ((λ q. (let z : face m₀ t ≡ f = sym w ∙ q in omega arith)), (λ q. ne (sym w ∙ q)))

  done' : (t : ℕ) → t < 2 * m₀.ne → face m₀ t < suc f → (face m' t ≢ NONE) × ((face m' t < suc f) ⊎ (m₀.nf ≤ face m' t))
  done' t i u = split (face m₀ t) f (λ e. opened (o.mine t (up t i) (now t i e))) (λ e. before (omega arith))
    where
      opened : (face m' t ≡ f) ⊎ ((m.nf ≤ face m' t) × (face m' t ≢ NONE)) → (face m' t ≢ NONE) × ((face m' t < suc f) ⊎ (m₀.nf ≤ face m' t))
      opened (inl q) = ((λ z. (let a = F-few in let b : f ≡ NONE = sym q ∙ z in omega arith)), inl (omega arith))
      opened (inr (q, z)) = (z, inr (let a = s.nf_is in omega arith))

      widen : (h : ℕ) → (h < f) ⊎ (m₀.nf ≤ h) → (h < suc f) ⊎ (m₀.nf ≤ h)
      widen h (inl q) = inl (omega arith)
      widen h (inr q) = inr q

      before : face m₀ t < f → (face m' t ≢ NONE) × ((face m' t < suc f) ⊎ (m₀.nf ≤ face m' t))
      before l =
          let e = o.off-face t (up t i) (past t i l).0 in
          let (a, b) = s.done t i l in
          ((λ z. a (sym e ∙ z)), subst⁻¹ (λ (h : ℕ). (h < suc f) ⊎ (m₀.nf ≤ h)) e (widen _ b))

  back' : (t : ℕ) → t < 2 * m'.ne → suc f ≤ face m' t → face m' t < m₀.nf → t < 2 * m₀.ne
  back' t i l u = go (dec_lt t (2 * m.ne))
    where
      fresh : (face m' t ≡ NONE) ⊎ ((face m' t ≡ f) ⊎ (m.nf ≤ face m' t)) → ⊥
      fresh (inl q) = let a = F-few in omega arith
      fresh (inr (inl q)) = omega arith
      fresh (inr (inr q)) = let a = s.nf_is in omega arith

      opened : (face m' t ≡ f) ⊎ ((m.nf ≤ face m' t) × (face m' t ≢ NONE)) → ⊥
      opened (inl q) = omega arith
      opened (inr (q, z)) = let a = s.nf_is in omega arith

      go : Dec (t < 2 * m.ne) → t < 2 * m₀.ne
      go (no p) = absurd (fresh (o.new t i (omega arith)))
      go (yes p) = split (face m t) f (λ e. absurd (opened (o.mine t p e)))
          (λ e. let q = o.off-face t p e in s.back t p (let w : suc f ≤ face m t = subst (λ (h : ℕ). suc f ≤ h) q l in omega arith) (subst (λ (h : ℕ). h < m₀.nf) q u))

  tips' : (t : ℕ) → t < 2 * m₀.ne → Q t → face m₀ t < suc f → m₀.nv ≤ head m' (next m' t)
  tips' t i q u = split (face m₀ t) f
      (λ e. let a = o.tip t (up t i) (Q-to t i q) (now t i e) in let b = s.nv-lo in omega arith)
      (λ e. let l : face m₀ t < f = omega arith in subst⁻¹ (λ (v : ℕ). m₀.nv ≤ v) (past-tip t i l) (s.tips t i q l))

  -- a tip made before is not one made now
  now-past : (t u : ℕ) → t < 2 * m₀.ne → u < 2 * m₀.ne → Q t → face m₀ t ≡ f → face m₀ u < f → head m' (next m' t) ≢ head m' (next m' u)
  now-past t u i j q e l z =
      let a = o.tip t (up t i) (Q-to t i q) (now t i e) in
      let b = past-tip u j l in
      let c = C.head_in (next m u) (C.next_in u (up u j)) in
      let d : m.nv ≤ head m (next m u) = subst (λ (v : ℕ). m.nv ≤ v) (z ∙ b) a in
      omega arith

  apart' : (t : ℕ) → t < 2 * m₀.ne → Q t → face m₀ t < suc f → face m₀ (partner t) < suc f
      → head m' (next m' t) ≢ head m' (next m' (partner t))
  apart' t i q u w = split (face m₀ t) f
      (λ e. split (face m₀ (partner t)) f
      (λ g. absurd (two-faces (good-shape m₀ g₀) g₀.consistent.core t i (e ∙ sym g)))
      (λ g. now-past t (partner t) i j q e (omega arith)))
      (λ e. split (face m₀ (partner t)) f
      (λ g z. now-past (partner t) t j i (sym-Q t q) g (omega arith) (sym z))
      (λ g z.
      let l : face m₀ t < f = omega arith in
      let l' : face m₀ (partner t) < f = omega arith in
      s.apart t i q l l' (sym (past-tip t i l) ∙ z ∙ past-tip (partner t) j l')))
    where
      j : partner t < 2 * m₀.ne
      j = partner-lt t m₀.ne i

  pub spread-step : Spread m₀ m' Q (suc f)
  spread-step = record {
    good = o.good;
    tri = o.tri;
    nv-lo = (let a = o.nv-lo in let b = s.nv-lo in omega arith);
    ne-lo = (let a = o.ne-lo in let b = s.ne-lo in omega arith);
    nf_is = (let a = o.nf_is in let b = s.nf_is in omega arith);
    wait = wait';
    wait-next = λ t i u ne. let (a, b) = later t i u ne in o.off_next t (up t i) a b ∙ s.wait-next t i (omega arith) ne;
    wait-head = λ t i u ne. let (a, b) = later t i u ne in o.head_is t (up t i) (inr b) ∙ s.wait-head t i (omega arith) ne;
    wait-start = λ h u i. o.off-start h (let a = s.nf_is in omega arith) (omega arith) ∙ s.wait-start h (omega arith) i;
    done = done';
    back = back';
    heads = λ t i q. o.head_is t (up t i) (inl (Q-to t i q)) ∙ s.heads t i q;
    tips = tips';
    apart = apart';
  }
