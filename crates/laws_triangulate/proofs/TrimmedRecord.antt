-- Triangulate: what holds after some of the faces. Assumes nothing.
use mathlib.Core.Path.{◌≡◌}
use mathlib.Core.Logic.{◌⊎◌, ◌≢◌}
use Prim.Native.Nat.{ℕ, ◌+◌, ◌*◌, ◌≤◌, ◌<◌}
use lib.ListN.{length}
use Rattle.scope.specs.Lists.{sum}
use Rattle.scope.specs.Links.{Links, NONE, face, next, start, loop}
use Rattle.laws_mesh.specs.Of.{Good}
use Rattle.laws_mesh.proofs.Count.{Length}

-- after the first f faces of m₀
pub record Trimmed (m₀ m : Links) (f : ℕ) : Type 0 where
  pub good : Good m
  pub nv_is : m.nv ≡ m₀.nv
  pub ne_is : m.ne + 3 * f ≡ m₀.ne + sum f (λ i. length (loop m₀ (start m₀ i)))
  pub nf_is : m.nf + 3 * f ≡ m₀.nf + sum f (λ i. length (loop m₀ (start m₀ i)))
  pub nf-lo : m₀.nf ≤ m.nf
  pub lens : (i t : ℕ) → f ≤ i → i < m₀.nf → t < 2 * m.ne → face m t ≡ i → Length (next m) t (length (loop m₀ (start m₀ i)))
  pub tri : (t : ℕ) → t < 2 * m.ne → face m t ≢ NONE → (face m t < f) ⊎ (m₀.nf ≤ face m t) → next m (next m (next m t)) ≡ t
