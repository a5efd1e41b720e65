-- In a mesh of triangles. Assumes nothing.
use mathlib.Core.Path.{◌≡◌, refl, sym, ap, ◌∙◌}
use mathlib.Core.Logic.{◌⊎◌, inl, inr, ◌≢◌}
use Prim.Native.Nat.{ℕ}
use Rattle.scope.specs.Links.{Links, NONE}
use Rattle.laws_mesh.specs.Mesh.{Mesh, tail, Shape, Consistent}
use Rattle.laws_mesh.specs.Of.{mesh, Good}
use Rattle.laws_mesh.specs.Sides.{Triangles}
use Rattle.laws_mesh.proofs.Cycle.{reach-ind}
use Rattle.laws_mesh.proofs.Sides.{to-closes, from-closes}

-- every halfedge with a face comes back after three
pub record Triangular (m : Mesh) : Type 0 where
  pub closes : (t : ℕ) → m.is_h t → m.face t ≢ NONE → m.next (m.next (m.next t)) ≡ t

pub to-triangular : (m : Links) → Good m → Triangles m → Triangular (mesh m)
to-triangular m g T = record { closes = to-closes m g T }

pub from-triangular : (m : Links) → Good m → Triangular (mesh m) → Triangles m
from-triangular m g T = from-closes m g T.closes

module _ {m : Mesh} (s : Shape m) (k : Consistent m) (T : Triangular m) where
  pub tri-back : (t : ℕ) → m.is_h t → m.face t ≢ NONE → m.next (m.next t) ≡ m.prev t
  tri-back t i r = sym (k.core.prev_next (m.next (m.next t)) (k.core.next_in _ (k.core.next_in t i))) ∙ ap m.prev (T.closes t i r)

  -- the third side starts where the second ends
  pub tri-tip : (t : ℕ) → m.is_h t → m.face t ≢ NONE → tail m (m.prev t) ≡ m.head (m.next t)
  tri-tip t i r = ap (tail m) (sym (tri-back t i r)) ∙ k.core.next_tail (m.next t) (k.core.next_in t i)

  pub tri-three : (t u : ℕ) → m.is_h t → m.is_h u → m.face t ≢ NONE → m.face u ≡ m.face t → (u ≡ t) ⊎ ((u ≡ m.next t) ⊎ (u ≡ m.prev t))
  tri-three t u i j r q = reach-ind (λ (u : ℕ). (u ≡ t) ⊎ ((u ≡ m.next t) ⊎ (u ≡ m.prev t))) step (inl refl) (k.core.one_loop t u i j r (sym q))
    where
      step : (u : ℕ) → (u ≡ t) ⊎ ((u ≡ m.next t) ⊎ (u ≡ m.prev t)) → (m.next u ≡ t) ⊎ ((m.next u ≡ m.next t) ⊎ (m.next u ≡ m.prev t))
      step u (inl z) = inr (inl (ap m.next z))
      step u (inr (inl z)) = inr (inr (ap m.next z ∙ tri-back t i r))
      step u (inr (inr z)) = inl (ap m.next z ∙ k.core.next_prev t i)
