-- The swaps on links: sizes, and consistency with and without marks. Assumes nothing.
use mathlib.Core.Path.{◌≡◌, ◌∙◌, subst}
use mathlib.Core.Logic.{◌⊎◌, inl, inr, ◌≢◌}
use Prim.Native.Nat.{ℕ, ◌+◌, ◌*◌, ◌<◌}
use native.Mathlib.Omega.{arith}
use Rattle.scope.specs.Links.{Links, Marks, NONE, face, head, next, prev, tail}
use Rattle.scope.specs.Edits.{swap_ccw, swap_cw}
use Rattle.laws_mesh.specs.Mesh.{Mesh, Shape, Core, Consistent}
use Rattle.laws_mesh.specs.Of.{mesh_on, mesh, mesh_of, Sized, Good}
use Rattle.laws_mesh.proofs.Facts.{partner-even, partner-odd, tail-in}
use Rattle.laws_mesh.proofs.Puts.{put-long}
use Rattle.laws_mesh.proofs.Stores.{stores-kept}
use Rattle.laws_mesh.proofs.Shapes.{shape-mesh, shape_of}
use Rattle.laws_mesh.proofs.Swap.{Swap, swap-consistent}
use Rattle.laws_mesh.proofs.SwapCw.{SwapCw, swap_cw-consistent}
use Rattle.laws_mesh.proofs.SwapOn.{Edge, Given, ccw-run, cw-run, swap_ccw-on, swap_cw-on}

-- the end that a half gets, counter-clockwise and clockwise
abbrev pub ccw-end : Links → ℕ → ℕ
ccw-end m h = head m (next m h)

abbrev pub cw-end : Links → ℕ → ℕ
cw-end m h = tail m (prev m h)

-- ---- sizes
module _ {H₁ V₁ F₁ : ℕ → Type 0} {m : Links} (e : ℕ) (g : Edge H₁ V₁ F₁ m (2 * e) (2 * e + 1)) (z : Sized m)
    (low : (x : ℕ) → H₁ x → x < 2 * m.ne) (low-v : (u : ℕ) → V₁ u → u < m.nv) (low-f : (f : ℕ) → F₁ f → f < m.nf) where
  c : Core (mesh_on H₁ V₁ F₁ m)
  c = g.con.core

  faced-low : (h : ℕ) → H₁ h → face m h ≢ NONE → face m h < m.nf
  faced-low h i n = go (c.face_in h i)
    where
      go : (face m h ≡ NONE) ⊎ F₁ (face m h) → face m h < m.nf
      go (inl q) = absurd (n q)
      go (inr q) = low-f _ q

  next_low : (h : ℕ) → H₁ h → next m h < 2 * m.ne
  next_low h i = low _ (c.next_in h i)

  prev-low : (h : ℕ) → H₁ h → prev m h < 2 * m.ne
  prev-low h i = low _ (c.prev_in h i)

  nn-low : (h : ℕ) → H₁ h → next m (next m h) < 2 * m.ne
  nn-low h i = low _ (c.next_in _ (c.next_in h i))

  pp-low : (h : ℕ) → H₁ h → prev m (prev m h) < 2 * m.ne
  pp-low h i = low _ (c.prev_in _ (c.prev_in h i))

  pub swap_ccw-sized : Sized (swap_ccw e m)
  unfolding swap_ccw
  swap_ccw-sized = let h = g.h-in in let o = g.o-in in record {
    outs_long = put-long _ _ _ (put-long _ _ _ z.outs_long (low-v _ (tail-in g.shape c (2 * e) h))) (low-v _ (c.head_in (2 * e) h));
    edges_long = stores-kept (2 * m.ne) m.edges (ccw-run m.edges (2 * e) (2 * e + 1)) (z.edges_long ∙ omega arith)
        (next_low _ o, (next_low _ h, (low _ h, (next_low _ o, (next_low _ o, (prev-low _ h, (nn-low _ h, (low _ h, (low _ o, (next_low _ h, (next_low _ h, (prev-low _ o, (nn-low _ o, (low _ o, (low _ o, (low _ h, tt))))))))))))))))
        ∙ z.edges_long;
    faces_long = put-long _ _ _ (put-long _ _ _ z.faces_long (faced-low _ h g.h-faced)) (faced-low _ o g.o-faced);
    few_v = z.few_v;
    few_e = z.few_e;
    few_f = z.few_f;
  }

  pub swap_cw-sized : Sized (swap_cw e m)
  unfolding swap_cw
  swap_cw-sized = let h = g.h-in in let o = g.o-in in record {
    outs_long = put-long _ _ _ (put-long _ _ _ z.outs_long (low-v _ (tail-in g.shape c (2 * e) h))) (low-v _ (c.head_in (2 * e) h));
    edges_long = stores-kept (2 * m.ne) m.edges (cw-run m.edges (2 * e) (2 * e + 1)) (z.edges_long ∙ omega arith)
        (prev-low _ h, (prev-low _ o, (low _ o, (pp-low _ o, (next_low _ o, (prev-low _ h, (prev-low _ h, (low _ o, (low _ h, (pp-low _ h, (next_low _ h, (prev-low _ o, (prev-low _ o, (low _ h, (low _ o, (low _ h, tt))))))))))))))))
        ∙ z.edges_long;
    faces_long = put-long _ _ _ (put-long _ _ _ z.faces_long (faced-low _ h g.h-faced)) (faced-low _ o g.o-faced);
    few_v = z.few_v;
    few_e = z.few_e;
    few_f = z.few_f;
  }

-- ---- the mesh stays consistent
-- an edge between two faces; what each half gets as its end is not the head of a halfedge of its face
pub record Swappable (M : Mesh) (m : Links) (end : ℕ → ℕ) (e : ℕ) : Type 0 where
  pub h-in : M.is_h (2 * e)
  pub h-faced : face m (2 * e) ≢ NONE
  pub o-faced : face m (2 * e + 1) ≢ NONE
  pub h-clear : (t : ℕ) → M.is_h t → face m t ≡ face m (2 * e) → head m t ≢ end (2 * e + 1)
  pub o-clear : (t : ℕ) → M.is_h t → face m t ≡ face m (2 * e + 1) → head m t ≢ end (2 * e)

pub given : {H₁ V₁ F₁ : ℕ → Type 0} {m : Links} {end : ℕ → ℕ} {e : ℕ} → Shape (mesh_on H₁ V₁ F₁ m) → Consistent (mesh_on H₁ V₁ F₁ m) → Swappable (mesh_on H₁ V₁ F₁ m) m end e
    → Given H₁ V₁ F₁ m end (2 * e) (2 * e + 1)
given {H₁} {e = e} s k a = record {
  edge = record {
    shape = s;
    con = k;
    h-in = a.h-in;
    o-in = subst H₁ (partner-even e) (s.H-partner (2 * e) a.h-in);
    h-partner = partner-even e;
    o-partner = partner-odd e;
    h-faced = a.h-faced;
    o-faced = a.o-faced;
  };
  h-clear = a.h-clear;
  o-clear = a.o-clear;
}

module _ (m : Links) (e : ℕ) (g : Good m) where
  s : Shape (mesh m)
  s = shape-mesh m g.sized.few_e g.sized.few_f

  pub swap_ccw-is : Swappable (mesh m) m (ccw-end m) e → Swap (mesh m) (mesh (swap_ccw e m)) (2 * e) (2 * e + 1)
  unfolding swap_ccw
  swap_ccw-is a = swap_ccw-on m e (given s g.consistent a)

  pub swap_ccw-good : Swappable (mesh m) m (ccw-end m) e → Good (swap_ccw e m)
  swap_ccw-good a =
      let z = swap_ccw-sized e (given s g.consistent a).edge g.sized (λ x i. i) (λ u i. i) (λ f i. i) in
      record { sized = z; consistent = swap-consistent s (shape-mesh (swap_ccw e m) z.few_e z.few_f) g.consistent.core g.consistent.three (swap_ccw-is a) }

-- with marks
module _ (m : Links) (k : Marks) (e : ℕ) (z : Sized m) (c : Consistent (mesh_of m k)) where
  t : Shape (mesh_of m k)
  t = shape_of m k z.few_e z.few_f

  pub swap_ccw-marked-sized : Swappable (mesh_of m k) m (ccw-end m) e → Sized (swap_ccw e m)
  swap_ccw-marked-sized a = swap_ccw-sized e (given t c a).edge z (λ x i. i.0) (λ u i. i.0) (λ f i. i.0)

  pub swap_ccw-marked : Swappable (mesh_of m k) m (ccw-end m) e → Swap (mesh_of m k) (mesh_of (swap_ccw e m) k) (2 * e) (2 * e + 1)
  unfolding swap_ccw
  swap_ccw-marked a = swap_ccw-on m e (given t c a)

  pub swap_ccw-marked-consistent : Swappable (mesh_of m k) m (ccw-end m) e → Consistent (mesh_of (swap_ccw e m) k)
  swap_ccw-marked-consistent a = let y = swap_ccw-marked-sized a in swap-consistent t (shape_of (swap_ccw e m) k y.few_e y.few_f) c.core c.three (swap_ccw-marked a)

  pub swap_cw-marked-sized : Swappable (mesh_of m k) m (cw-end m) e → Sized (swap_cw e m)
  swap_cw-marked-sized a = swap_cw-sized e (given t c a).edge z (λ x i. i.0) (λ u i. i.0) (λ f i. i.0)

  pub swap_cw-marked : Swappable (mesh_of m k) m (cw-end m) e → SwapCw (mesh_of m k) (mesh_of (swap_cw e m) k) (2 * e) (2 * e + 1)
  unfolding swap_cw
  swap_cw-marked a = swap_cw-on m e (given t c a)

  pub swap_cw-marked-consistent : Swappable (mesh_of m k) m (cw-end m) e → Consistent (mesh_of (swap_cw e m) k)
  swap_cw-marked-consistent a = let y = swap_cw-marked-sized a in swap_cw-consistent t (shape_of (swap_cw e m) k y.few_e y.few_f) c (swap_cw-marked a)
