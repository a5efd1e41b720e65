-- Meshes laid out in lists have a shape: so many halfedges, in pairs, and no number that is "none"; and the carriers may be said otherwise. Assumes nothing.
use mathlib.Core.Path.{◌≡◌, refl, ap, ◌∙◌}
use mathlib.Core.Logic.{◌⊎◌, inl, inr}
use Prim.Native.Nat.{ℕ, ◌*◌, ◌/◌, ◌≤◌, ◌<◌}
use native.Mathlib.Omega.{arith}
use lib.ListN.{get_or}
use Rattle.scope.specs.Links.{Links, Marks, NONE}
use Rattle.laws_mesh.specs.Mesh.{Shape, Consistent}
use Rattle.laws_mesh.specs.Of.{mesh_on, mesh, mesh_of}
use Rattle.laws_mesh.proofs.Facts.{partner-lt, partner-half}

-- a number of faces or of halfedges that is not over "none"
pub shape-mesh : (m : Links) → m.ne ≤ 1048576 → m.nf ≤ 1048576 → Shape (mesh m)
shape-mesh m e f = record { size = 2 * m.ne; below = λ x i. i; H-partner = λ x i. partner-lt x m.ne i; H-none = λ x i. (omega arith); F-none = λ x i. (omega arith) }

pub size-mesh : (m : Links) (e : m.ne ≤ 1048576) (f : m.nf ≤ 1048576) → (shape-mesh m e f).size ≡ 2 * m.ne
unfolding shape-mesh
size-mesh m e f = refl

-- the numbers of faces and halfedges need only stay below "none"
pub shape-wide : (m : Links) (k : Marks) → 2 * m.ne ≤ NONE → m.nf ≤ NONE → Shape (mesh_of m k)
shape-wide m k e f = record {
  size = 2 * m.ne;
  below = λ x i. i.0;
  H-partner = λ x (l, q). (partner-lt x m.ne l, ap (λ (j : ℕ). get_or k.es j 0) (partner-half x) ∙ q);
  H-none = λ x (l, q). (omega arith);
  F-none = λ x (l, q). (omega arith);
}

pub shape_of : (m : Links) (k : Marks) → m.ne ≤ 1048576 → m.nf ≤ 1048576 → Shape (mesh_of m k)
shape_of m k e f = shape-wide m k (omega arith) (omega arith)

pub size_of : (m : Links) (k : Marks) (e : m.ne ≤ 1048576) (f : m.nf ≤ 1048576) → (shape_of m k e f).size ≡ 2 * m.ne
unfolding shape_of shape-wide
size_of m k e f = refl

either : {A B C : Type 0} → (B → C) → A ⊎ B → A ⊎ C
either g (inl a) = inl a
either g (inr b) = inr (g b)

-- two ways to say which elements are there that say the same
pub record Same (H₁ V₁ F₁ H₂ V₂ F₂ : ℕ → Type 0) : Type 0 where
  pub to_H : (x : ℕ) → H₁ x → H₂ x
  pub from-H : (x : ℕ) → H₂ x → H₁ x
  pub to-V : (x : ℕ) → V₁ x → V₂ x
  pub from-V : (x : ℕ) → V₂ x → V₁ x
  pub to-F : (x : ℕ) → F₁ x → F₂ x
  pub from-F : (x : ℕ) → F₂ x → F₁ x

pub recarry : {H₁ V₁ F₁ H₂ V₂ F₂ : ℕ → Type 0} (m : Links) → Same H₁ V₁ F₁ H₂ V₂ F₂ → Consistent (mesh_on H₁ V₁ F₁ m) → Consistent (mesh_on H₂ V₂ F₂ m)
recarry m s k = let c = k.core in record {
  core = record {
    face_in = λ h i. either (s.to-F _) (c.face_in h (s.from-H h i));
    head_in = λ h i. s.to-V _ (c.head_in h (s.from-H h i));
    next_in = λ h i. s.to_H _ (c.next_in h (s.from-H h i));
    prev_in = λ h i. s.to_H _ (c.prev_in h (s.from-H h i));
    out_in = λ v i. either (s.to_H _) (c.out_in v (s.from-V v i));
    start_in = λ f i. s.to_H _ (c.start_in f (s.from-F f i));
    next_prev = λ h i. c.next_prev h (s.from-H h i);
    prev_next = λ h i. c.prev_next h (s.from-H h i);
    next_tail = λ h i. c.next_tail h (s.from-H h i);
    next_face = λ h i. c.next_face h (s.from-H h i);
    start_bears = λ f i. c.start_bears f (s.from-F f i);
    one_loop = λ a b i j. c.one_loop a b (s.from-H a i) (s.from-H b j);
    a_face = λ h i. c.a_face h (s.from-H h i);
    no_spike = λ h i. c.no_spike h (s.from-H h i);
    heads_differ = λ a b i j. c.heads_differ a b (s.from-H a i) (s.from-H b j);
    two_long = λ a i. c.two_long a (s.from-H a i);
    out_leaves = λ v i. c.out_leaves v (s.from-V v i);
    none_leaves = λ v i e h j. c.none_leaves v (s.from-V v i) e h (s.from-H h j);
    one_turn = λ a b i j. c.one_turn a b (s.from-H a i) (s.from-H b j);
    rim_named = λ h i. c.rim_named h (s.from-H h i);
  };
  three = record { three_long = λ a i. k.three.three_long a (s.from-H a i) };
}

-- nothing in range is marked
pub record Unmarked (m : Links) (k : Marks) : Type 0 where
  pub no-v : (v : ℕ) → v < m.nv → get_or k.vs v 0 ≡ 0
  pub no-e : (e : ℕ) → e < m.ne → get_or k.es e 0 ≡ 0
  pub no-f : (f : ℕ) → f < m.nf → get_or k.fs f 0 ≡ 0

pub to-mesh : (m : Links) (k : Marks) → Unmarked m k → Consistent (mesh_of m k) → Consistent (mesh m)
to-mesh m k u = recarry m
    (record { to_H = λ x i. i.0; from-H = λ x i. (i, u.no-e (x / 2) (omega arith)); to-V = λ x i. i.0; from-V = λ x i. (i, u.no-v x i); to-F = λ x i. i.0; from-F = λ x i. (i, u.no-f x i) })

pub from-mesh : (m : Links) (k : Marks) → Unmarked m k → Consistent (mesh m) → Consistent (mesh_of m k)
from-mesh m k u = recarry m
    (record { from-H = λ x i. i.0; to_H = λ x i. (i, u.no-e (x / 2) (omega arith)); from-V = λ x i. i.0; to-V = λ x i. (i, u.no-v x i); from-F = λ x i. i.0; to-F = λ x i. (i, u.no-f x i) })
