-- A triangle opened around its centre (scope's `centre_face`). Assumes nothing.
use mathlib.Core.Path.{◌≡◌, sym, ap, ◌∙◌, subst⁻¹}
use mathlib.Core.Logic.{◌⊎◌, inl, inr, ◌≢◌}
use Prim.Native.Nat.{ℕ, ◌+◌, ◌*◌, ◌≤◌, ◌<◌}
use native.Mathlib.Omega.{arith}
use Rattle.scope.specs.Links.{Links, NONE, partner, face, head, next, start}
use Rattle.scope.specs.Passes.{centre_face}
use Rattle.laws_mesh.specs.Reach.{iter}
use Rattle.laws_mesh.specs.Mesh.{Mesh, Core, Consistent}
use Rattle.laws_mesh.specs.Of.{mesh, Good}
use Rattle.laws_mesh.proofs.Cycle.{split}
use Rattle.laws_mesh.proofs.Count.{Length}
use Rattle.laws_mesh.proofs.Loops.{good-shape}
use Rattle.laws_mesh.proofs.Sides.{three-cycle}
use Rattle.laws_mesh.proofs.Ring.{after, before}
use Rattle.laws_mesh.proofs.Fan.{Fan}
use Rattle.laws_mesh.proofs.FanOn.{Names}
use Rattle.laws_mesh.proofs.LoopParts.{name-last, names-last}
use Rattle.laws_mesh.proofs.SplitFaceLaws.{centre-counts, centre-is, centre-good}
use Rattle.laws_triangulate.proofs.Triangular.{Triangular}
use Rattle.laws_sqrt3.proofs.Spread.{Opened}

-- a face around a centre, each halfedge a part: triangles, among triangles
module _ {m m' : Mesh} {f c : ℕ} {K : ℕ → Type 0} {a up dn r sub : ℕ → ℕ} (k : Consistent m) (d : Fan m m' f c K a a up dn r sub) where
  fan-triangular : Triangular m → Triangular m'
  fan-triangular T = record { closes = λ t i ne. go t ne (d.H-is t i) }
    where
      C : Core m
      C = k.core

      from-o : (j : ℕ) → K j → m'.next (m'.next (m'.next (partner (r j)))) ≡ partner (r j)
      from-o j w = let u = d.parts.up_in j w in cc (d.next-o j w, d.next-b j w, d.next-r (up j) u, d.parts.dn-up j w)

      from-a : (j : ℕ) → K j → m'.next (m'.next (m'.next (a j))) ≡ a j
      from-a j w = let u = d.parts.up_in j w in cc (d.next-b j w, d.next-r (up j) u, d.parts.dn-up j w, d.next-o j w)

      from-r : (j : ℕ) → K j → m'.next (m'.next (m'.next (r j))) ≡ r j
      from-r j w = let u = d.parts.dn-in j w in cc (d.next-r j w, d.next-o (dn j) u, d.next-b (dn j) u, d.parts.up-dn j w)

      old : (t : ℕ) → m.is_h t → m.face t ≢ f → m'.face t ≢ NONE → m'.next (m'.next (m'.next t)) ≡ t
      old t i o ne =
          let i₁ = C.next_in t i in
          let o₁ : m.face (m.next t) ≢ f = λ q. o (sym (C.next_face t i) ∙ q) in
          let o₂ : m.face (m.next (m.next t)) ≢ f = λ q. o₁ (sym (C.next_face (m.next t) i₁) ∙ q) in
          cc (d.next-free t i o, d.next-free (m.next t) i₁ o₁, d.next-free (m.next (m.next t)) (C.next_in (m.next t) i₁) o₂, T.closes t i (λ q. ne (d.face-free t i o ∙ q)))

      mine : (t : ℕ) → (j : ℕ) × K j × ((t ≡ a j) ⊎ (t ≡ a j)) → m'.next (m'.next (m'.next t)) ≡ t
      mine t (j, w, inl e) = subst⁻¹ (λ (t : ℕ). m'.next (m'.next (m'.next t)) ≡ t) e (from-a j w)
      mine t (j, w, inr e) = subst⁻¹ (λ (t : ℕ). m'.next (m'.next (m'.next t)) ≡ t) e (from-a j w)

      go : (t : ℕ) → m'.face t ≢ NONE → m.is_h t ⊎ (((j : ℕ) × K j × (t ≡ r j)) ⊎ ((j : ℕ) × K j × (t ≡ partner (r j)))) → m'.next (m'.next (m'.next t)) ≡ t
      go t ne (inl i) = split (m.face t) f (λ e. mine t (d.parts.all t i e)) (λ o. old t i o ne)
      go t ne (inr (inl (j, w, e))) = subst⁻¹ (λ (t : ℕ). m'.next (m'.next (m'.next t)) ≡ t) e (from-r j w)
      go t ne (inr (inr (j, w, e))) = subst⁻¹ (λ (t : ℕ). m'.next (m'.next (m'.next t)) ≡ t) e (from-o j w)

module _ (m : Links) (f : ℕ) (g : Good m) (T : Triangular (mesh m)) (f_in : f < m.nf) (v-lt : m.nv + 1 ≤ 1048576) (e-lt : m.ne + 3 ≤ 1048576) (f_lt : m.nf + 2 ≤ 1048576) where
  C : Core (mesh m)
  C = g.consistent.core

  abbrev m' : Links
  m' = centre_face f m

  long : Length (next m) (start m f) 3
  long =
      let i = C.start_in f f_in in
      let ne : face m (start m f) ≢ NONE = λ q. (good-shape m g).F-none f f_in (sym (C.start_bears f f_in) ∙ q) in
      three-cycle m g (start m f) i ne (T.closes (start m f) i ne)

  sub : ℕ → ℕ
  sub = name-last f m.nf 3

  names : Names f m.nf 3 sub
  unfolding sub
  names = names-last f m.nf 3 f_in (omega arith)

  a : ℕ → ℕ
  a i = iter (next m) i (next m (start m f))

  d : Fan (mesh m) (mesh m') f m.nv (λ i. i < 3) a a (after 3) (before 3) (λ i. 2 * (m.ne + i)) sub
  unfolding sub a
  d = centre-is m f 3 g f_in long v-lt e-lt f_lt

  good' : Good m'
  good' = centre-good m f 3 g f_in long v-lt e-lt f_lt

  pub centre-nv : m'.nv ≡ m.nv + 1
  centre-nv = (centre-counts m f 3 g f_in long v-lt e-lt f_lt).0

  pub centre-ne : m'.ne ≡ m.ne + 3
  centre-ne = (centre-counts m f 3 g f_in long v-lt e-lt f_lt).1

  centre-nf : m'.nf ≡ m.nf + 2
  centre-nf = (centre-counts m f 3 g f_in long v-lt e-lt f_lt).2

  -- a part's face is f or new
  Fresh : ℕ → Type 0
  Fresh x = (x ≡ f) ⊎ ((m.nf ≤ x) × (x ≢ NONE))

  part-face : (t j : ℕ) → j < 3 → face m' t ≡ sub j → Fresh (face m' t)
  unfolding Fresh
  part-face t j w e = go (names.sub_is j w)
    where
      go : (sub j ≡ f) ⊎ ((m.nf ≤ sub j) × (sub j < m.nf + 2)) → (face m' t ≡ f) ⊎ ((m.nf ≤ face m' t) × (face m' t ≢ NONE))
      go (inl q) = inl (e ∙ q)
      go (inr (p, q)) = inr (omega arith, λ z. (omega arith))

  -- the old halfedges of f are the parts
  part_of : (t : ℕ) → t < 2 * m.ne → face m t ≡ f → (j : ℕ) × (j < 3) × (t ≡ a j)
  part_of t i e = go (d.parts.all t i e)
    where
      go : (j : ℕ) × (j < 3) × ((t ≡ a j) ⊎ (t ≡ a j)) → (j : ℕ) × (j < 3) × (t ≡ a j)
      go (j, w, inl q) = (j, w, q)
      go (j, w, inr q) = (j, w, q)

  new_face : (t : ℕ) → t < 2 * m'.ne → 2 * m.ne ≤ t → Fresh (face m' t)
  new_face t i l = go (d.H-is t i)
    where
      go : (t < 2 * m.ne) ⊎ (((j : ℕ) × (j < 3) × (t ≡ 2 * (m.ne + j))) ⊎ ((j : ℕ) × (j < 3) × (t ≡ partner (2 * (m.ne + j))))) → Fresh (face m' t)
      go (inl q) = absurd (omega arith)
      go (inr (inl (j, w, e))) = part-face t (before 3 j) (d.parts.dn-in j w) (ap (face m') e ∙ d.face-r j w)
      go (inr (inr (j, w, e))) = part-face t j w (ap (face m') e ∙ d.face-o j w)

  pub centre-opened : (Q : ℕ → Type 0) → Opened m m' f Q
  unfolding Fresh
  centre-opened Q = record {
    good = good';
    tri = fan-triangular g.consistent d T;
    nv-lo = (let q = centre-nv in omega arith);
    ne-lo = (let q = centre-ne in omega arith);
    nf_is = centre-nf;
    off-face = d.face-free;
    off_next = λ t i e ne. d.next-free t i e;
    head_is = λ t i q. d.head-old t i;
    off-start = d.start-free;
    mine = λ t i e. let (j, w, q) = part_of t i e in part-face t j w (ap (face m') q ∙ d.face-a j w);
    tip = λ t i q e. let (j, w, p) = part_of t i e in
        (let h : head m' (next m' t) ≡ m.nv = ap (λ (t : ℕ). head m' (next m' t)) p ∙ ap (head m') (d.next-b j w) ∙ d.head-r (after 3 j) (d.parts.up_in j w) in omega arith);
    new = λ t i l. fresh (new_face t i l);
  }
    where
      fresh : {x : ℕ} → (x ≡ f) ⊎ ((m.nf ≤ x) × (x ≢ NONE)) → (x ≡ NONE) ⊎ ((x ≡ f) ⊎ (m.nf ≤ x))
      fresh (inl q) = inr (inl q)
      fresh (inr (p, q)) = inr (inr p)

  -- no new halfedge is on the rim
  pub centre-inner : (t : ℕ) → t < 2 * m'.ne → face m' t ≡ NONE → t < 2 * m.ne
  unfolding Fresh
  centre-inner t i e = go (d.H-is t i)
    where
      not_none : {x : ℕ} → (x ≡ f) ⊎ ((m.nf ≤ x) × (x ≢ NONE)) → x ≢ NONE
      not_none (inl q) z = (good-shape m g).F-none f f_in (sym q ∙ z)
      not_none (inr (p, q)) z = q z

      go : (t < 2 * m.ne) ⊎ (((j : ℕ) × (j < 3) × (t ≡ 2 * (m.ne + j))) ⊎ ((j : ℕ) × (j < 3) × (t ≡ partner (2 * (m.ne + j))))) → t < 2 * m.ne
      go (inl q) = q
      go (inr (inl (j, w, q))) = absurd (not_none (part-face t (before 3 j) (d.parts.dn-in j w) (ap (face m') q ∙ d.face-r j w)) e)
      go (inr (inr (j, w, q))) = absurd (not_none (part-face t j w (ap (face m') q ∙ d.face-o j w)) e)
