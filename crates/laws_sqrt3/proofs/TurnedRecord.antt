-- The second half of a sqrt3 pass: what holds after some of the edges. Assumes nothing.
use mathlib.Core.Path.{◌≡◌}
use mathlib.Core.Logic.{◌⊎◌, ◌≢◌}
use Prim.Native.Nat.{ℕ, ◌*◌, ◌≤◌, ◌<◌}
use Rattle.scope.specs.Links.{Links, NONE, partner, face, head, next}
use Rattle.laws_mesh.specs.Of.{mesh, Good}
use Rattle.laws_triangulate.proofs.Triangular.{Triangular}

-- after e of the edges of m₀. R holds of whatever is on the rim. An old halfedge not yet turned (its edge is to come, or is on the rim) and its partner end at old vertices,
-- and what follows it ends at a new one, another than on its other side
pub record Turned (m₀ m : Links) (Q R : ℕ → Type 0) (e : ℕ) : Type 0 where
  pub good : Good m
  pub tri : Triangular (mesh m)
  pub ne-lo : m₀.ne ≤ m.ne
  pub inner : (t : ℕ) → t < 2 * m.ne → face m t ≡ NONE → R t
  pub rim : (t : ℕ) → t < 2 * m₀.ne → face m₀ t ≡ NONE → face m t ≡ NONE
  pub faced : (t : ℕ) → t < 2 * m₀.ne → face m₀ t ≢ NONE → face m t ≢ NONE
  pub heads : (t : ℕ) → t < 2 * m₀.ne → Q t → (2 * e ≤ t) ⊎ ((face m₀ t ≡ NONE) ⊎ (face m₀ (partner t) ≡ NONE)) → head m t < m₀.nv
  pub tips : (t : ℕ) → t < 2 * m₀.ne → Q t → (2 * e ≤ t) ⊎ ((face m₀ t ≡ NONE) ⊎ (face m₀ (partner t) ≡ NONE)) → face m₀ t ≢ NONE
      → m₀.nv ≤ head m (next m t)
  pub apart : (t : ℕ) → t < 2 * m₀.ne → Q t → 2 * e ≤ t → face m₀ t ≢ NONE → face m₀ (partner t) ≢ NONE
      → head m (next m t) ≢ head m (next m (partner t))
