-- A sqrt3 pass with the flag true: what holds after some of the faces. Assumes nothing.
use mathlib.Core.Path.{◌≡◌}
use mathlib.Core.Logic.{◌≢◌}
use Prim.Native.Nat.{ℕ, ◌+◌, ◌*◌}
use Rattle.scope.specs.Lists.{number_of}
use Rattle.scope.specs.Links.{Links, NONE, partner, face}
use Rattle.laws_sqrt3.specs.Rims.{rimmed}
use Rattle.laws_sqrt3.proofs.Spread.{Spread}

-- both halves of u's edge have faces
abbrev pub Two : Links → ℕ → Type 0
Two m u = (face m u ≢ NONE) × (face m (partner u) ≢ NONE)

-- a face with a rim edge gets two points on it
pub record Edged (m₀ m : Links) (f : ℕ) : Type 0 where
  pub spread : Spread m₀ m (Two m₀) f
  pub nv_is : m.nv ≡ m₀.nv + f + number_of f (rimmed m₀)
  pub ne_is : m.ne ≡ m₀.ne + 3 * f + number_of f (rimmed m₀)
