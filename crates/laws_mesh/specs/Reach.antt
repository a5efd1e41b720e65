-- Repeated steps of a function on numbers. Assumes nothing.
use Rattle.std.specs.Prelude.{ℕ, zero, suc}

-- `Reach f a b`: b is met when f is repeated from a (perhaps no times)
pub data Reach (f : ℕ → ℕ) (a : ℕ) : ℕ → Type 0 where
  here : Reach f a a
  step : {b : ℕ} → Reach f a b → Reach f a (f b)

-- the same by counting: f, k times
abbrev pub iter : (ℕ → ℕ) → ℕ → ℕ → ℕ
iter f zero a = a
iter f (suc k) a = f (iter f k a)
