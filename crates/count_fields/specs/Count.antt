-- The counter's fields (document 01, section 5). Assumes nothing.
use Rattle.std.specs.Prelude.{ℕ, ◌*◌, ◌<◌, ◌≤◌, Bool, true, false, not, ◌&&◌, List, [], ◌∷◌, ltb, get_or, length}
use Rattle.scope.specs.Lists.{if, number_of}
use Rattle.scope.specs.Links.{Links, isolated}
use Rattle.mesh.specs.Words.{next_at}
use Rattle.mesh.specs.Rounds.{loop_at, rim_at}

-- one of l is lower than h
unfoldable pub below : ℕ → List ℕ → Bool
below h [] = false
below h (x ∷ l) = let r = below h l in if (ltb x h) true r

-- the lowest halfedge of a loop of rim halfedges: each rim loop has one
unfoldable pub lowest_rim : List ℕ → ℕ → ℕ → Bool
lowest_rim es n h = rim_at es h && not (below h (loop_at es n h))

-- ---- §5: the fields besides V, E, F, S and b
unfoldable pub rim_loops : Links → ℕ
rim_loops m = number_of (2 * m.ne) (lowest_rim m.edges m.ne)

-- vertices with an edge
unfoldable pub joined_of : Links → ℕ
joined_of m = number_of m.nv (λ v. not (isolated m v))

-- ---- what counting needs of the links: a step by next stays among n edges, and a face names one of their halfedges
pub record Linked (es fs : List ℕ) (n : ℕ) : Type 0 where
  pub few : n ≤ 1048576
  pub few_faces : length fs ≤ 1048576
  pub room : 8 * n ≤ length es
  pub step : (h : ℕ) → h < 2 * n → next_at es h < 2 * n
  pub from : (f : ℕ) → f < length fs → get_or fs f 0 < 2 * n
