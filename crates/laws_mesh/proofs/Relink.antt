-- A mesh whose halfedges stay as they are, with a vertex more. Assumes nothing.
use mathlib.Core.Path.{◌≡◌, sym, ap, ◌∙◌, subst, subst⁻¹}
use mathlib.Core.Logic.{◌⊎◌, inl, inr, ◌≢◌}
use Prim.Native.Nat.{ℕ}
use Rattle.scope.specs.Links.{NONE}
use Rattle.laws_mesh.specs.Mesh.{Mesh, tail, relinked, Shape, Consistent}
use Rattle.laws_mesh.proofs.Facts.{tail-in}

-- the rules on vertices, leaving halfedges and starts
pub record Linked (m : Mesh) (V₁ : ℕ → Type 0) (out₁ start₁ : ℕ → ℕ) : Type 0 where
  pub head_in : (h : ℕ) → m.is_h h → V₁ (m.head h)
  pub out_in : (v : ℕ) → V₁ v → (out₁ v ≡ NONE) ⊎ m.is_h (out₁ v)
  pub start_in : (f : ℕ) → m.is_f f → m.is_h (start₁ f)
  pub start_bears : (f : ℕ) → m.is_f f → m.face (start₁ f) ≡ f
  pub out_leaves : (v : ℕ) → V₁ v → out₁ v ≢ NONE → tail m (out₁ v) ≡ v
  pub none_leaves : (v : ℕ) → V₁ v → out₁ v ≡ NONE → (h : ℕ) → m.is_h h → tail m h ≢ v
  pub rim_named : (h : ℕ) → m.is_h h → m.face h ≡ NONE → out₁ (tail m h) ≡ h

pub relink : {m : Mesh} {V₁ : ℕ → Type 0} {out₁ start₁ : ℕ → ℕ} → Consistent m → Linked m V₁ out₁ start₁ → Consistent (relinked m V₁ out₁ start₁)
relink k l = let c = k.core in record {
  core = record {
    face_in = c.face_in;
    head_in = l.head_in;
    next_in = c.next_in;
    prev_in = c.prev_in;
    out_in = l.out_in;
    start_in = l.start_in;
    next_prev = c.next_prev;
    prev_next = c.prev_next;
    next_tail = c.next_tail;
    next_face = c.next_face;
    start_bears = l.start_bears;
    one_loop = c.one_loop;
    a_face = c.a_face;
    no_spike = c.no_spike;
    heads_differ = c.heads_differ;
    two_long = c.two_long;
    out_leaves = l.out_leaves;
    none_leaves = l.none_leaves;
    one_turn = c.one_turn;
    rim_named = l.rim_named;
  };
  three = record { three_long = k.three.three_long };
}

-- an isolated vertex more
pub add-vertex : {m : Mesh} (V₁ : ℕ → Type 0) (out₁ : ℕ → ℕ) (v : ℕ) → Shape m → Consistent m
    → ¬ m.is_v v → ((u : ℕ) → m.is_v u → V₁ u) → ((u : ℕ) → V₁ u → m.is_v u ⊎ (u ≡ v)) → out₁ v ≡ NONE → ((u : ℕ) → m.is_v u → out₁ u ≡ m.out u)
    → Consistent (relinked m V₁ out₁ m.start)
add-vertex {m} V₁ out₁ v s k new keep is at-v old = let c = k.core in relink k (record {
  head_in = λ h i. keep _ (c.head_in h i);
  out_in = λ u i. each (λ (u : ℕ). (out₁ u ≡ NONE) ⊎ m.is_h (out₁ u)) u i (inl at-v) (λ j. subst⁻¹ (λ (x : ℕ). (x ≡ NONE) ⊎ m.is_h x) (old u j) (c.out_in u j));
  start_in = c.start_in;
  start_bears = c.start_bears;
  out_leaves = λ u i. each (λ (u : ℕ). out₁ u ≢ NONE → tail m (out₁ u) ≡ u) u i (λ ne. absurd (ne at-v)) (λ j ne. ap (tail m) (old u j) ∙ c.out_leaves u j (λ e. ne (old u j ∙ e)));
  none_leaves = λ u i. each (λ (u : ℕ). out₁ u ≡ NONE → (h : ℕ) → m.is_h h → tail m h ≢ u) u i (λ e h j q. new (subst m.is_v q (tail-in s c h j)))
      (λ j e. c.none_leaves u j (sym (old u j) ∙ e));
  rim_named = λ h i e. old (tail m h) (tail-in s c h i) ∙ c.rim_named h i e;
})
  where
    each : (P : ℕ → Type 0) (u : ℕ) → V₁ u → P v → (m.is_v u → P u) → P u
    each P u i p q = go (is u i)
      where
        go : m.is_v u ⊎ (u ≡ v) → P u
        go (inl j) = q j
        go (inr e) = subst⁻¹ P e p
