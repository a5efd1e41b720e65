-- Lists that are bytes. Assumes nothing.
use Rattle.std.specs.Prelude.{ℕ, ◌<◌, List, get_or, length}

pub record Bytes (b : List ℕ) : Type 0 where
  pub at : (i : ℕ) → i < length b → get_or b i 0 < 256
