-- Where a swap is not refused it can be done, deleted elements allowed. Assumes nothing.
use mathlib.Core.Path.{◌≡◌, sym, ap, ◌∙◌, subst, subst⁻¹}
use mathlib.Core.Bool.{false, not}
use mathlib.Core.List.{List, map}
use Rattle.std.specs.Prelude.{None}
use Prim.Native.Nat.{ℕ, zero, suc, ◌+◌, ◌*◌, ◌/◌}
use native.Mathlib.Omega.{arith}
use lib.ListN.{get_or}
use Rattle.scope.specs.Lists.{has, round}
use Rattle.scope.specs.Links.{Links, Marks, NONE, face, head, next, rim, rim_edge, loop, is_e}
use Rattle.scope.specs.EditCalls.{swap_denied}
use Rattle.laws_mesh.specs.Reach.{Reach, iter}
use Rattle.laws_mesh.specs.Mesh.{Consistent}
use Rattle.laws_mesh.specs.Of.{mesh_of, Sized}
use Rattle.laws_mesh.proofs.Cycle.{Perm, iter-reach, reach-within}
use Rattle.laws_mesh.proofs.Count.{Length, length-of}
use Rattle.laws_mesh.proofs.Facts.{partner-even, perm-next}
use Rattle.laws_mesh.proofs.Shapes.{shape_of, size_of}
use Rattle.laws_mesh.proofs.SwapLaws.{Swappable}
use Rattle.laws_check.specs.Tells.{Tells}
use Rattle.laws_check.proofs.Tells.{is-so-not, tells-map, t-and, t-eq, t-lt}
use Rattle.laws_check.proofs.Rounds.{map-run, Met, t-has-run, round-cycle}
use Rattle.laws_edit.proofs.Allowed.{let_by, let-last, neither}

-- ---- the heads on a loop
module _ {P : ℕ → Type 0} {n : ℕ} {f g : ℕ → ℕ} (m : Perm P n f g) {a : ℕ} (p : P a) where
  met : (k : ℕ) (key : ℕ → ℕ) {y : ℕ} → Length f a k → (x : ℕ) → Reach f a x → key x ≡ y → Met key f k a y
  met zero key c x r e = absurd (let l = c.long in omega arith)
  met (suc k) key c x r e = let (i, l, q) = reach-within k c.closes r in (i, omega arith, ap key q ∙ e)

  pub t-has-key : (key : ℕ → ℕ) (y : ℕ) → Tells (has y (map key (round a f n a))) ((x : ℕ) × Reach f a x × (key x ≡ y))
  t-has-key key y =
      let (k, l, c) = length-of m p in
      subst⁻¹ (λ (r : List ℕ). Tells (has y r) ((x : ℕ) × Reach f a x × (key x ≡ y))) (ap (map key) (round-cycle m p l c) ∙ map-run key f k a)
      (tells-map (t-has-run key f k a y) (λ (i, h, e). (iter f i a, iter-reach f a i, e)) (λ (x, r, e). met k key c x r e))

pub t-on_loop-head : (m : Links) (k : Marks) (h x : ℕ) → Sized m → Consistent (mesh_of m k) → (mesh_of m k).is_h h
    → Tells (has x (map (head m) (loop m h))) ((t : ℕ) × Reach (next m) h t × (head m t ≡ x))
unfolding loop
t-on_loop-head m k h x z c i =
    subst (λ (s : ℕ). Tells (has x (map (head m) (round h (next m) s h))) ((t : ℕ) × Reach (next m) h t × (head m t ≡ x))) (size_of m k z.few_e z.few_f)
    (t-has-key (perm-next (shape_of m k z.few_e z.few_f) c.core) i (head m) x)

-- ---- where a swap is not refused
pub edge_in : (m : Links) (k : Marks) (e : ℕ) → not (is_e m k e) ≡ false → (mesh_of m k).is_h (2 * e)
unfolding is_e
edge_in m k e q =
    let (l, u) = is-so-not (t-and (t-lt e m.ne) (t-eq (get_or k.es e 0) 0)) q in
    let h : 2 * e / 2 ≡ e = omega arith in
    (omega arith, ap (λ (i : ℕ). get_or k.es i 0) h ∙ u)

module _ (m : Links) (k : Marks) (e : ℕ) (z : Sized m) (c : Consistent (mesh_of m k)) (end : Links → ℕ → ℕ) where
  pub partner-in : (mesh_of m k).is_h (2 * e) → (mesh_of m k).is_h (2 * e + 1)
  partner-in i = subst (mesh_of m k).is_h (partner-even e) ((shape_of m k z.few_e z.few_f).H-partner (2 * e) i)

  pub swappable : swap_denied end e m k ≡ None → Swappable (mesh_of m k) m (end m) e
  unfolding swap_denied
  swappable q =
      let (bad, q1) = let_by (not (is_e m k e)) _ _ q in
      let (rims, q2) = let_by (rim_edge m e) _ _ q1 in
      let i = edge_in m k e bad in
      let (rh, ro) = neither (rim m (2 * e)) (rim m (2 * e + 1)) rims in
      let (ch, co) = neither (has (end m (2 * e + 1)) (map (head m) (loop m (2 * e)))) _ (let-last _ _ q2) in
      record {
        h-in = i;
        h-faced = (t-eq (face m (2 * e)) NONE).not_so rh;
        o-faced = (t-eq (face m (2 * e + 1)) NONE).not_so ro;
        h-clear = λ t j f x. (t-on_loop-head m k (2 * e) _ z c i).not_so ch (t, c.core.one_loop (2 * e) t i j ((t-eq (face m (2 * e)) NONE).not_so rh) (sym f), x);
        o-clear = λ t j f x. (t-on_loop-head m k (2 * e + 1) _ z c (partner-in i)).not_so co (t, c.core.one_loop (2 * e + 1) t (partner-in i) j ((t-eq (face m (2 * e + 1)) NONE).not_so ro) (sym f), x);
      }
