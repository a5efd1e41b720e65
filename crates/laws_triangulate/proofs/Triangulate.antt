-- Triangulate: one face, then all. The mesh stays good, every face becomes a triangle, and the tally is document 01's. Assumes nothing.
use mathlib.Core.Path.{◌≡◌, refl, sym, ap, ◌∙◌, subst, subst⁻¹}
use mathlib.Core.Logic.{◌⊎◌, inl, inr, ◌≢◌}
use Prim.Native.Nat.{ℕ, zero, suc, ◌+◌, ◌-◌, ◌*◌, ◌≤◌, ◌<◌}
use native.Mathlib.Nat.{not-suc-le-zero}
use native.Mathlib.Decide.{dec_lt}
use native.Mathlib.Omega.{arith}
use lib.ListN.{length}
use Rattle.scope.specs.Lists.{each, sum}
use Rattle.scope.specs.Links.{Links, NONE, face, next, start, loop}
use Rattle.scope.specs.Edits.{cut_corner, triangulate_face, triangulate}
use Rattle.scope.specs.Tally.{tally_of, triangulated}
use Rattle.laws_mesh.specs.Reach.{iter}
use Rattle.laws_mesh.specs.Mesh.{Core}
use Rattle.laws_mesh.specs.Of.{mesh, Good}
use Rattle.laws_mesh.specs.Sides.{Within, Triangles}
use Rattle.laws_mesh.proofs.Cycle.{split}
use Rattle.laws_mesh.proofs.Count.{Length}
use Rattle.laws_mesh.proofs.Loops.{loop-length, face-three}
use Rattle.laws_mesh.proofs.Corners.{sum-all, rims-corners}
use Rattle.laws_mesh.proofs.Sides.{bears-length, from-closes, tally-is}
use Rattle.laws_triangulate.proofs.Corner.{Cornered, corner}
pub use Rattle.laws_triangulate.proofs.TrimmedRecord.{Trimmed}

-- ---- one face

-- after j of the corners of face f, whose loop was of l
pub record Cutted (m₀ m : Links) (f l j : ℕ) : Type 0 where
  pub good : Good m
  pub nv_is : m.nv ≡ m₀.nv
  pub ne_is : m.ne ≡ m₀.ne + j
  pub nf_is : m.nf ≡ m₀.nf + j
  pub mine : (k t : ℕ) → k + j ≡ l → t < 2 * m.ne → face m t ≡ f → Length (next m) t k
  pub old_face : (t : ℕ) → t < 2 * m₀.ne → face m₀ t ≢ f → face m t ≡ face m₀ t
  pub old-next : (t : ℕ) → t < 2 * m₀.ne → face m₀ t ≢ f → next m t ≡ next m₀ t
  pub back : (t : ℕ) → t < 2 * m.ne → face m t ≢ f → (face m t < m₀.nf) ⊎ (face m t ≡ NONE) → (t < 2 * m₀.ne) × (face m₀ t ≢ f)
  pub tri : (t : ℕ) → t < 2 * m.ne → m₀.nf ≤ face m t → face m t < m.nf → next m (next m (next m t)) ≡ t

pub cutted-none : (m : Links) (f l : ℕ) → Good m → ((t : ℕ) → t < 2 * m.ne → face m t ≡ f → Length (next m) t l) → Cutted m m f l 0
cutted-none m f l g lens = record {
  good = g;
  nv_is = refl;
  ne_is = omega arith;
  nf_is = omega arith;
  mine = λ k t e i b. subst⁻¹ (Length (next m) t) (let q : k ≡ l = omega arith in q) (lens t i b);
  old_face = λ t i e. refl;
  old-next = λ t i e. refl;
  back = λ t i e p. (i, e);
  tri = λ t i u w. absurd (let q : face m t < face m t = omega arith in omega arith);
}

module _ (m₀ m m' : Links) (f l j : ℕ) (f₀ : f < m₀.nf) (s : Cutted m₀ m f l j) (d : Cornered m m' f) (lo : j + 4 ≤ l) where
  C : Core (mesh m)
  C = s.good.consistent.core

  tri-old : (t : ℕ) → t < 2 * m.ne → face m t ≢ f → next m' (next m' (next m' t)) ≡ next m (next m (next m t))
  tri-old t i e =
      let i₁ = C.next_in t i in
      let e₁ : face m (next m t) ≢ f = λ q. e (sym (C.next_face t i) ∙ q) in
      let e₂ : face m (next m (next m t)) ≢ f = λ q. e₁ (sym (C.next_face (next m t) i₁) ∙ q) in
      cc (d.old-next t i e, d.old-next (next m t) i₁ e₁, d.old-next (next m (next m t)) (C.next_in (next m t) i₁) e₂)

  cut_step : Cutted m₀ m' f l (suc j)
  cut_step = record {
    good = d.good;
    nv_is = d.nv_is ∙ s.nv_is;
    ne_is = (let a = d.ne_is in let b = s.ne_is in omega arith);
    nf_is = (let a = d.nf_is in let b = s.nf_is in omega arith);
    mine = λ k t e i b. d.shorter k (omega arith) (λ u. s.mine (suc k) u (omega arith)) t i b;
    old_face = λ t i e. d.old_face t (up t i) (λ q. e (sym (s.old_face t i e) ∙ q)) ∙ s.old_face t i e;
    old-next = λ t i e. d.old-next t (up t i) (λ q. e (sym (s.old_face t i e) ∙ q)) ∙ s.old-next t i e;
    back = λ t i e q. d.cases t i
        (λ z w. absurd (new-out t z q))
        (λ z. absurd (e z))
        (λ lt z. s.back t lt z (subst (λ (h : ℕ). (h < m₀.nf) ⊎ (h ≡ NONE)) (d.old_face t lt z) q));
    tri = λ t i u w. d.cases t i
        (λ z q. q)
        (λ z. absurd (omega arith))
        (λ lt z. tri-old t lt z ∙ s.tri t lt (subst (λ (h : ℕ). m₀.nf ≤ h) (d.old_face t lt z) u) (below t lt (subst (λ (h : ℕ). h < m'.nf) (d.old_face t lt z) w)));
  }
    where
      up : (t : ℕ) → t < 2 * m₀.ne → t < 2 * m.ne
      up t i = let q = s.ne_is in omega arith

      new-out : (t : ℕ) → face m' t ≡ m.nf → (face m' t < m₀.nf) ⊎ (face m' t ≡ NONE) → ⊥
      new-out t e (inl q) = let a = s.nf_is in omega arith
      new-out t e (inr q) = let a = s.good.sized.few_f in let w : m.nf ≡ NONE = sym e ∙ q in omega arith

      below : (t : ℕ) → t < 2 * m.ne → face m t < m'.nf → face m t < m.nf
      below t i u = go (C.face_in t i)
        where
          go : (face m t ≡ NONE) ⊎ (face m t < m.nf) → face m t < m.nf
          go (inl q) = let a = d.good.sized.few_f in omega arith
          go (inr q) = q

-- j corners of face f
pub cuts : (m : Links) (f l j : ℕ) → f < m.nf → Cutted m m f l 0 → j + 3 ≤ l → m.ne + l ≤ 1048576 + 3 → m.nf + l ≤ 1048576 + 3 → Cutted m (each j (λ i. cut_corner f) m) f l j
unfolding each
cuts m f l zero f₀ s h e g = s
cuts m f l (suc j) f₀ s h e g = go (cuts m f l j f₀ s (omega arith) e g)
  where
    go : Cutted m (each j (λ i. cut_corner f) m) f l j → Cutted m (cut_corner f (each j (λ i. cut_corner f) m)) f l (suc j)
    go r =
        let n = each j (λ i. cut_corner f) m in
        let a = r.ne_is in
        let b = r.nf_is in
        let k = l - j in
        let f₁ : f < n.nf = omega arith in
        let c = r.good.consistent.core in
        cut_step m n (cut_corner f n) f l j f₀ r
        (corner n r.good f f₁ (l - suc j) (r.mine (suc (l - suc j)) (start n f) (omega arith) (c.start_in f f₁) (c.start_bears f f₁)) (omega arith) (omega arith) (omega arith)) (omega arith)

-- the face of number f
pub tri-face : (m : Links) (f : ℕ) → Good m → f < m.nf → m.ne + length (loop m (start m f)) ≤ 1048576 + 3 → m.nf + length (loop m (start m f)) ≤ 1048576 + 3
    → Cutted m (triangulate_face f m) f (length (loop m (start m f))) (length (loop m (start m f)) - 3)
unfolding triangulate_face
tri-face m f g u e h =
    let w = face-three m g f u in
    cuts m f (length (loop m (start m f))) (length (loop m (start m f)) - 3) u (cutted-none m f (length (loop m (start m f))) g (bears-length m g f u)) (omega arith) e h

-- ---- all faces

sum-three : (l : ℕ → ℕ) (f n : ℕ) → f ≤ n → ((i : ℕ) → i < n → 3 ≤ l i) → sum f l + 3 * n ≤ sum n l + 3 * f
unfolding sum
sum-three l f zero u h = let e : f ≡ zero = omega arith in subst⁻¹ (λ (f : ℕ). sum f l + 3 * zero ≤ sum zero l + 3 * f) e (omega arith)
sum-three l f (suc n) u h = split f (suc n)
    (λ e. subst⁻¹ (λ (f : ℕ). sum f l + 3 * suc n ≤ sum (suc n) l + 3 * f) e (omega arith))
    (λ e. let r = sum-three l f n (omega arith) (λ i j. h i (omega arith)) in let q = h n (omega arith) in omega arith)

module _ (m₀ m : Links) (f : ℕ) (s : Trimmed m₀ m f) (f₀ : f < m₀.nf) (three : (i : ℕ) → i < m₀.nf → 3 ≤ length (loop m₀ (start m₀ i)))
    (E : m₀.ne + sum m₀.nf (λ i. length (loop m₀ (start m₀ i))) ≤ 1048576 + 3 * m₀.nf)
    (F : m₀.nf + sum m₀.nf (λ i. length (loop m₀ (start m₀ i))) ≤ 1048576 + 3 * m₀.nf) where
  abbrev m' : Links
  m' = triangulate_face f m

  abbrev l : ℕ
  l = length (loop m₀ (start m₀ f))

  fm : f < m.nf
  fm = let a = s.nf-lo in omega arith

  K : Core (mesh m)
  K = s.good.consistent.core

  same : length (loop m (start m f)) ≡ l
  same = loop-length m s.good (start m f) l (K.start_in f fm) (s.lens f (start m f) (omega arith) f₀ (K.start_in f fm) (K.start_bears f fm))

  cutted : Cutted m m' f l (l - 3)
  unfolding sum
  cutted =
      let q = sum-three (λ i. length (loop m₀ (start m₀ i))) (suc f) m₀.nf f₀ three in
      let a = s.ne_is in
      let b = s.nf_is in
      let c = same in
      subst (λ (l : ℕ). Cutted m (triangulate_face f m) f l (l - 3)) same (tri-face m f s.good fm (omega arith) (omega arith))

  -- a loop of another face is walked as before
  walk : (t : ℕ) → t < 2 * m.ne → face m t ≢ f → (j : ℕ) → iter (next m') j t ≡ iter (next m) j t
  walk t i e zero = refl
  walk t i e (suc j) = ap (next m') (walk t i e j) ∙ cutted.old-next (iter (next m) j t) (inside j).0 (λ q. e (sym (inside j).1 ∙ q))
    where
      inside : (j : ℕ) → (iter (next m) j t < 2 * m.ne) × (face m (iter (next m) j t) ≡ face m t)
      inside zero = (i, refl)
      inside (suc j) = (K.next_in _ (inside j).0, K.next_face _ (inside j).0 ∙ (inside j).1)

  lens' : (i t : ℕ) → suc f ≤ i → i < m₀.nf → t < 2 * m'.ne → face m' t ≡ i → Length (next m') t (length (loop m₀ (start m₀ i)))
  lens' i t u v j e =
      let (j₀, e₀) = cutted.back t j (λ q. (let w : i ≡ f = sym e ∙ q in omega arith)) (inl (let a = s.nf-lo in omega arith)) in
      let o = s.lens i t (omega arith) v j₀ (sym (cutted.old_face t j₀ e₀) ∙ e) in
      record { long = o.long; closes = walk t j₀ e₀ (length (loop m₀ (start m₀ i))) ∙ o.closes; no-sooner = λ h a b q. o.no-sooner h a b (sym (walk t j₀ e₀ h) ∙ q) }

  tri' : (t : ℕ) → t < 2 * m'.ne → face m' t ≢ NONE → (face m' t < suc f) ⊎ (m₀.nf ≤ face m' t) → next m' (next m' (next m' t)) ≡ t
  tri' t i ne p = split (face m' t) f (λ e. (cutted.mine 3 t (let q = three f f₀ in omega arith) i e).closes) (λ e. other e (dec_lt (face m' t) m.nf))
    where
      narrow : (h : ℕ) → h ≢ f → (h < suc f) ⊎ (m₀.nf ≤ h) → (h < f) ⊎ (m₀.nf ≤ h)
      narrow h e (inl q) = inl (omega arith)
      narrow h e (inr q) = inr q

      below : (face m' t ≡ NONE) ⊎ (face m' t < m'.nf) → face m' t < m'.nf
      below (inl q) = absurd (ne q)
      below (inr q) = q

      other : face m' t ≢ f → Dec (face m' t < m.nf) → next m' (next m' (next m' t)) ≡ t
      other e (no q) = cutted.tri t i (omega arith) (below (cutted.good.consistent.core.face_in t i))
      other e (yes q) =
          let (i₀, e₀) = cutted.back t i e (inl q) in
          let o = cutted.old_face t i₀ e₀ in
          walk t i₀ e₀ 3 ∙ s.tri t i₀ (λ z. ne (o ∙ z)) (subst (λ (h : ℕ). (h < f) ⊎ (m₀.nf ≤ h)) o (narrow _ e p))

  trim-step : Trimmed m₀ m' (suc f)
  unfolding sum
  trim-step =
      let a = cutted.ne_is in
      let b = cutted.nf_is in
      let c = s.ne_is in
      let d = s.nf_is in
      let e = s.nf-lo in
      let q = three f f₀ in
      record { good = cutted.good; nv_is = cutted.nv_is ∙ s.nv_is; ne_is = omega arith; nf_is = omega arith; nf-lo = omega arith; lens = lens'; tri = tri' }

trims : (m : Links) (f : ℕ) → f ≤ m.nf → Trimmed m m 0 → ((i : ℕ) → i < m.nf → 3 ≤ length (loop m (start m i)))
    → m.ne + sum m.nf (λ i. length (loop m (start m i))) ≤ 1048576 + 3 * m.nf → m.nf + sum m.nf (λ i. length (loop m (start m i))) ≤ 1048576 + 3 * m.nf
    → Trimmed m (each f triangulate_face m) f
unfolding each
trims m zero u s three e h = s
trims m (suc f) u s three e h = trim-step m (each f triangulate_face m) f (trims m f (omega arith) s three e h) u three e h

module _ (m : Links) (g : Good m) (w : Within (triangulated (tally_of m))) where
  c : Core (mesh m)
  c = g.consistent.core

  three : (i : ℕ) → i < m.nf → 3 ≤ length (loop m (start m i))
  three = face-three m g

  abbrev S : ℕ
  S = sum m.nf (λ i. length (loop m (start m i)))

  enough : 3 * m.nf ≤ S
  unfolding sum
  enough = let q = sum-three (λ i. length (loop m (start m i))) 0 m.nf (omega arith) three in omega arith

  few : (m.ne + S ≤ 1048576 + 3 * m.nf) × (S ≤ 1048576 + 2 * m.nf)
  unfolding triangulated tally_of
  few =
      let q = enough in
      let a : m.ne + S - 3 * m.nf ≤ 1048576 = w.e_within in
      let b : S - 2 * m.nf ≤ 1048576 = w.f_within in
      (omega arith, omega arith)

  -- after the first f faces
  pub trims-to : (f : ℕ) → f ≤ m.nf → Trimmed m (each f triangulate_face m) f
  unfolding sum
  trims-to f l =
      let q = few in
      trims m f l (record {
        good = g;
        nv_is = refl;
        ne_is = omega arith;
        nf_is = omega arith;
        nf-lo = omega arith;
        lens = λ i t u v j e. bears-length m g i v t j e;
        tri = λ t i ne p. absurd (none_yet t ne p (c.face_in t i));
      }) three few.0 (let z = few.1 in omega arith)
    where
      none_yet : (t : ℕ) → face m t ≢ NONE → (face m t < zero) ⊎ (m.nf ≤ face m t) → (face m t ≡ NONE) ⊎ (face m t < m.nf) → ⊥
      none_yet t ne (inl q) p = not-suc-le-zero q
      none_yet t ne (inr q) (inl p) = ne p
      none_yet t ne (inr q) (inr p) = omega arith

  -- the triangles of face f are within what all of them come to
  pub trim-room : (f : ℕ) → f < m.nf
      → ((each f triangulate_face m).ne + length (loop (each f triangulate_face m) (start (each f triangulate_face m) f)) ≤ (triangulated (tally_of m)).e + 3)
      × ((each f triangulate_face m).nf + length (loop (each f triangulate_face m) (start (each f triangulate_face m) f)) ≤ (triangulated (tally_of m)).f + 3)
  unfolding sum triangulated tally_of
  trim-room f l =
      let s = trims-to f (omega arith) in
      let a = s.ne_is in
      let b = s.nf_is in
      let d = same m (each f triangulate_face m) f s l three few.0 (let z = few.1 in omega arith) in
      let q = sum-three (λ i. length (loop m (start m i))) (suc f) m.nf l three in
      let n = enough in
      (omega arith, omega arith)

  trimmed : Trimmed m (triangulate m) m.nf
  unfolding triangulate
  trimmed = trims-to m.nf (omega arith)

  pub triangulate-good : Good (triangulate m)
  triangulate-good = trimmed.good

  pub triangulate-closes : (t : ℕ) → t < 2 * (triangulate m).ne → face (triangulate m) t ≢ NONE → next (triangulate m) (next (triangulate m) (next (triangulate m) t)) ≡ t
  triangulate-closes t i ne = trimmed.tri t i ne (either (dec_lt (face (triangulate m) t) m.nf))
    where
      either : Dec (face (triangulate m) t < m.nf) → (face (triangulate m) t < m.nf) ⊎ (m.nf ≤ face (triangulate m) t)
      either (yes q) = inl q
      either (no q) = inr (omega arith)

-- ---- the tally
module _ (m : Links) (g : Good m) (w : Within (triangulated (tally_of m))) where
  pub triangulate-triangles : Triangles (triangulate m)
  triangulate-triangles = from-closes (triangulate m) (triangulate-good m g w) (triangulate-closes m g w)

  pub triangulate-tally : tally_of (triangulate m) ≡ triangulated (tally_of m)
  unfolding tally_of triangulated
  triangulate-tally =
      let d = trimmed m g w in
      let a = d.ne_is in
      let b = d.nf_is in
      let n = enough m g w in
      let s = sum-all (triangulate m).nf 3 (λ f. length (loop (triangulate m) (start (triangulate m) f))) triangulate-triangles in
      let p = rims-corners m g in
      let q = rims-corners (triangulate m) (triangulate-good m g w) in
      tally-is (tally_of (triangulate m)) (triangulated (tally_of m)) d.nv_is (omega arith) (omega arith) (omega arith) (omega arith)

  -- V - E + F stays
  pub triangulate-euler : m.nv + m.nf + (triangulate m).ne ≡ (triangulate m).nv + (triangulate m).nf + m.ne
  triangulate-euler = let d = trimmed m g w in let a = d.nv_is in let b = d.ne_is in let c = d.nf_is in omega arith

-- ---- triangles are left word for word
tri-faces-same : (m : Links) (f : ℕ) → f ≤ m.nf → Triangles m → each f triangulate_face m ≡ m
unfolding each triangulate_face
tri-faces-same m zero u t = refl
tri-faces-same m (suc f) u t =
    ap (triangulate_face f) (tri-faces-same m f (omega arith) t)
    ∙ ap (λ (l : ℕ). each (l - 3) (λ i. cut_corner f) m) (t f u)

pub triangulate-same : (m : Links) → Triangles m → triangulate m ≡ m
unfolding triangulate
triangulate-same m t = tri-faces-same m m.nf (omega arith) t

-- triangulate leaves a good mesh of triangles with document 01's counts
pub triangulates : (m : Links) → Good m → Within (triangulated (tally_of m)) → Good (triangulate m) × Triangles (triangulate m) × (tally_of (triangulate m) ≡ triangulated (tally_of m))
triangulates m g w = (triangulate-good m g w, triangulate-triangles m g w, triangulate-tally m g w)
