-- Room for a mesh in slices of these lengths. Assumes nothing.
use Rattle.std.specs.Prelude.{ℕ, ◌*◌, ◌≤◌}
use Rattle.scope.specs.declared.records.Counts.{Counts}

-- links
pub record Takes (c : Counts) (outs edges faces : ℕ) : Type 0 where
  pub few : c.e ≤ 1048576
  pub outs_in : c.v ≤ outs
  pub edges_in : 8 * c.e ≤ edges
  pub faces_in : c.f ≤ faces

-- marks
pub record Holds (c : Counts) (vmarks emarks fmarks : ℕ) : Type 0 where
  pub vmarks_in : c.v ≤ vmarks
  pub emarks_in : c.e ≤ emarks
  pub fmarks_in : c.f ≤ fmarks
