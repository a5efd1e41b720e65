-- Faces with an edge on the rim. Assumes nothing.
use Rattle.std.specs.Prelude.{Bool, true, false, ℕ, Option, None, Some}
use Rattle.scope.specs.Links.{Links}
use Rattle.scope.specs.Passes.{rim_side}

abbrev pub there : Option ℕ → Bool
there None = false
there (Some h) = true

-- has face f an edge on the rim
unfoldable pub rimmed : Links → ℕ → Bool
rimmed m f = there (rim_side f m)
