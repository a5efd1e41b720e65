-- Both swaps keep a mesh consistent, deleted elements allowed. Assumes nothing.
use mathlib.Core.Path.{◌≡◌, refl}
use mathlib.Core.Logic.{◌⊎◌, inl, inr, ◌≢◌}
use mathlib.Core.Bool.{not}
use Rattle.std.specs.Prelude.{Some}
use Prim.Native.Nat.{ℕ, ◌+◌, ◌*◌}
use native.Mathlib.Omega.{arith}
use Rattle.scope.specs.declared.answers.Refusal.TheVariants.{WouldBreak}
use Rattle.scope.specs.Links.{Links, Marks, NONE, face, head, next, rim, rim_edge, is_e}
use Rattle.scope.specs.Edits.{swap_ccw, swap_cw}
use Rattle.scope.specs.Tally.{counts_of}
use Rattle.scope.specs.EditCalls.{swap_denied, swap_ccw_edit, swap_cw_edit}
use Rattle.laws_mesh.specs.Reach.{Reach}
use Rattle.laws_mesh.specs.Mesh.{Consistent}
use Rattle.laws_mesh.specs.Rules.{C7}
use Rattle.laws_mesh.specs.Of.{mesh_on, mesh_of, Sized}
use Rattle.laws_mesh.proofs.Facts.{partner-even, partner-odd, loop-in, loop-face}
use Rattle.laws_mesh.proofs.Shapes.{shape_of}
use Rattle.laws_mesh.proofs.SwapLaws.{ccw-end, cw-end, swap_ccw-marked-sized, swap_ccw-marked-consistent, swap_cw-marked-sized, swap_cw-marked-consistent}
use Rattle.laws_mesh.proofs.SwapOn.{Edge, flip}
use Rattle.laws_mesh.proofs.SwapBreaks.{ccw-breaks, cw-breaks, ccw-moved, cw-moved, ccw-edges, cw-edges}
use Rattle.laws_check.proofs.Tells.{t-or, t-eq}
use Rattle.laws_edit.specs.Kept.{Keeps}
use Rattle.laws_edit.specs.Breaks.{Breaks, Guarded}
use Rattle.laws_edit.proofs.Allowed.{let-past, given-last, neither, after-guards, allowed, after_kept}
use Rattle.laws_edit.proofs.SwapAllowed.{t-on_loop-head, edge_in, partner-in, swappable}

pub swap_ccw-keeps : (e : ℕ) → Keeps (swap_ccw_edit e)
unfolding swap_ccw_edit swap_ccw counts_of
swap_ccw-keeps e m k own l q =
    let a = allowed (swap_ccw_edit e) m k own l q in
    let s = swappable m k e a.sized a.consistent ccw-end a.undenied in
    let lo = a.long in
    after_kept (swap_ccw_edit e) m k (swap_ccw-marked-sized m k e a.sized a.consistent s)
    (let q = lo.vs_long in omega arith) (let q = lo.es_long in omega arith) (let q = lo.fs_long in omega arith)
    (swap_ccw-marked-consistent m k e a.sized a.consistent s) refl

pub swap_cw-keeps : (e : ℕ) → Keeps (swap_cw_edit e)
unfolding swap_cw_edit swap_cw counts_of
swap_cw-keeps e m k own l q =
    let a = allowed (swap_cw_edit e) m k own l q in
    let s = swappable m k e a.sized a.consistent cw-end a.undenied in
    let lo = a.long in
    after_kept (swap_cw_edit e) m k (swap_cw-marked-sized m k e a.sized a.consistent s)
    (let q = lo.vs_long in omega arith) (let q = lo.es_long in omega arith) (let q = lo.fs_long in omega arith)
    (swap_cw-marked-consistent m k e a.sized a.consistent s) refl

-- ---- answer 14
module _ (m : Links) (k : Marks) (e : ℕ) (z : Sized m) (c : Consistent (mesh_of m k)) where
  -- an edge between two faces
  between : (mesh_of m k).is_h (2 * e) → face m (2 * e) ≢ NONE → face m (2 * e + 1) ≢ NONE → Edge (mesh_of m k).is_h (mesh_of m k).is_v (mesh_of m k).is_f m (2 * e) (2 * e + 1)
  between i rh ro = record {
    shape = shape_of m k z.few_e z.few_f;
    con = c;
    h-in = i;
    o-in = partner-in m k e z c ccw-end i;
    h-partner = partner-even e;
    o-partner = partner-odd e;
    h-faced = rh;
    o-faced = ro;
  }

  face-there : (h : ℕ) → (mesh_of m k).is_h h → face m h ≢ NONE → (mesh_of m k).is_f (face m h)
  face-there h i n = go (c.core.face_in h i)
    where
      go : (face m h ≡ NONE) ⊎ (mesh_of m k).is_f (face m h) → (mesh_of m k).is_f (face m h)
      go (inl q) = absurd (n q)
      go (inr f) = f

  -- a new end is the head of a halfedge of the face that gets it
  taken : (end : Links → ℕ → ℕ) → swap_denied end e m k ≡ Some WouldBreak
      → Edge (mesh_of m k).is_h (mesh_of m k).is_v (mesh_of m k).is_f m (2 * e) (2 * e + 1)
      × (((t : ℕ) × Reach (next m) (2 * e) t × (head m t ≡ end m (2 * e + 1))) ⊎ ((t : ℕ) × Reach (next m) (2 * e + 1) t × (head m t ≡ end m (2 * e))))
  unfolding swap_denied
  taken end q =
      let (bad, q1) = let-past (not (is_e m k e)) _ _ WouldBreak (λ x. omega arith) q in
      let (rims, q2) = let-past (rim_edge m e) _ _ WouldBreak (λ x. omega arith) q1 in
      let i = edge_in m k e bad in
      let (rh, ro) = neither (rim m (2 * e)) (rim m (2 * e + 1)) rims in
      let g = between i ((t-eq (face m (2 * e)) NONE).not_so rh) ((t-eq (face m (2 * e + 1)) NONE).not_so ro) in
      (g, (t-or (t-on_loop-head m k (2 * e) (end m (2 * e + 1)) z c i) (t-on_loop-head m k (2 * e + 1) (end m (2 * e)) z c g.o-in)).so (given-last _ _ _ q2))

  -- then C7 is broken at that face
  module _ (m' : Links) (same-e : m'.ne ≡ m.ne) (same-f : m'.nf ≡ m.nf) where
    broken_at : (h : ℕ) → (mesh_of m k).is_h h → face m h ≢ NONE → (C7 (mesh_on (mesh_of m k).is_h (mesh_of m k).is_v (mesh_of m k).is_f m') (face m h) → ⊥) → Breaks (mesh_of m' k)
    broken_at h i n b =
        let (f, q) = face-there h i n in
        inr (face m h, (omega arith, q), λ c7. b (record { three = c7.three; differ = λ x y (xi, xq) (yi, yq). c7.differ x y (omega arith, xq) (omega arith, yq) }))

pub swap_ccw-guarded : (e : ℕ) → Guarded (swap_ccw_edit e)
unfolding swap_ccw_edit swap_ccw
swap_ccw-guarded e m k z l c = after-guards (swap_ccw_edit e) m k (λ q. broken (taken m k e z c ccw-end q)) (λ q. ((let r = z.few_e in omega arith, let r = z.few_f in omega arith), swap_ccw-marked-consistent m k e z c (swappable m k e z c ccw-end q)))
  where
    broken : Edge (mesh_of m k).is_h (mesh_of m k).is_v (mesh_of m k).is_f m (2 * e) (2 * e + 1)
        × (((t : ℕ) × Reach (next m) (2 * e) t × (head m t ≡ ccw-end m (2 * e + 1))) ⊎ ((t : ℕ) × Reach (next m) (2 * e + 1) t × (head m t ≡ ccw-end m (2 * e)))) → Breaks (mesh_of (swap_ccw e m) k)
    broken (g, inl (t, r, x)) = broken_at m k e z c (swap_ccw e m) refl refl (2 * e) g.h-in g.h-faced
        (ccw-breaks g (ccw-moved {m' = swap_ccw e m} g (ccw-edges m e)).0 t (loop-in g.shape c.core g.h-in r) (loop-face g.shape c.core g.h-in r) x)
    broken (g, inr (t, r, x)) = broken_at m k e z c (swap_ccw e m) refl refl (2 * e + 1) g.o-in g.o-faced
        (ccw-breaks (flip g) (ccw-moved {m' = swap_ccw e m} g (ccw-edges m e)).1 t (loop-in g.shape c.core g.o-in r) (loop-face g.shape c.core g.o-in r) x)

pub swap_cw-guarded : (e : ℕ) → Guarded (swap_cw_edit e)
unfolding swap_cw_edit swap_cw
swap_cw-guarded e m k z l c = after-guards (swap_cw_edit e) m k (λ q. broken (taken m k e z c cw-end q)) (λ q. ((let r = z.few_e in omega arith, let r = z.few_f in omega arith), swap_cw-marked-consistent m k e z c (swappable m k e z c cw-end q)))
  where
    broken : Edge (mesh_of m k).is_h (mesh_of m k).is_v (mesh_of m k).is_f m (2 * e) (2 * e + 1)
        × (((t : ℕ) × Reach (next m) (2 * e) t × (head m t ≡ cw-end m (2 * e + 1))) ⊎ ((t : ℕ) × Reach (next m) (2 * e + 1) t × (head m t ≡ cw-end m (2 * e)))) → Breaks (mesh_of (swap_cw e m) k)
    broken (g, inl (t, r, x)) = broken_at m k e z c (swap_cw e m) refl refl (2 * e) g.h-in g.h-faced
        (cw-breaks g (cw-moved {m' = swap_cw e m} g (cw-edges m e)).0 t (loop-in g.shape c.core g.h-in r) (loop-face g.shape c.core g.h-in r) x)
    broken (g, inr (t, r, x)) = broken_at m k e z c (swap_cw e m) refl refl (2 * e + 1) g.o-in g.o-faced
        (cw-breaks (flip g) (cw-moved {m' = swap_cw e m} g (cw-edges m e)).1 t (loop-in g.shape c.core g.o-in r) (loop-face g.shape c.core g.o-in r) x)
