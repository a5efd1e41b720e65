-- How many halfedges a mesh's faces have, and counts that are not over what document 01 allows. Assumes nothing.
use Rattle.std.specs.Prelude.{◌≡◌, ℕ, ◌≤◌, ◌<◌, length}
use Rattle.scope.specs.Links.{Links, start, loop}
use Rattle.scope.specs.Tally.{Tally}

-- no count is over 1,048,576
pub record Within (t : Tally) : Type 0 where
  pub v_within : t.v ≤ 1048576
  pub e_within : t.e ≤ 1048576
  pub f_within : t.f ≤ 1048576

-- every face has n halfedges
abbrev pub Sided : ℕ → Links → Type 0
Sided n m = (f : ℕ) → f < m.nf → length (loop m (start m f)) ≡ n

abbrev pub Triangles : Links → Type 0
Triangles m = Sided 3 m
