-- An answer to a question. Assumes nothing.
use Rattle.std.specs.Prelude.{◌≡◌, Bool, true, false}

-- b answers whether P
pub record Tells (b : Bool) (P : Type 0) : Type 0 where
  pub so : b ≡ true → P
  pub not_so : b ≡ false → P → ⊥
