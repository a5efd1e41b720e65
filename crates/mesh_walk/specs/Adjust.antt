-- `adjust_outgoing_halfedge` (document 01, section 2). Assumes nothing.
use Rattle.std.specs.Prelude.{ℕ, List, set, Option, None, Some}
use Rattle.mesh.specs.Rounds.{around_at, rim_at, first_of}

-- a vertex's link, where a better one was found
abbrev renamed : List ℕ → ℕ → Option ℕ → List ℕ
renamed outs v (Some h) = set outs v h
renamed outs v None = outs

-- §2: it names the leaving rim halfedge if there is one; else the link stays
unfoldable pub adjusted : List ℕ → List ℕ → ℕ → ℕ → List ℕ
adjusted outs es n v = renamed outs v (first_of (rim_at es) (around_at outs es n v))
