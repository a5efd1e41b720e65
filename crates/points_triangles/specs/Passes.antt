-- What a pass of Loop and of sqrt3 leaves in the work slice, and what it answers (document 01, sections 3 and 4). Assumes nothing.
use Rattle.std.specs.Prelude.{ℕ, ◌≡◌, Bool, true, false, List, map, Float, Option, None, Some, Result, Ok, Err, ⊤}
use Rattle.scope.specs.declared.records.Point.{Point}
use Rattle.scope.specs.Rules.{sqrt_rim}
use Rattle.points_triangles.specs.Vertices.{stay}
use Rattle.scope.specs.Lists.{if, range}
use Rattle.scope.specs.Links.{Links}
use Rattle.scope.specs.Points.{flat, loop_vertex, loop_points, sqrt_vertex, sqrt_points}
use Rattle.scope.specs.Schemes.{crowded}

abbrev pub named : Option ℕ → Result ⊤ ℕ
named None = Ok tt
named (Some v) = Err v

-- how many vertices of n are done
abbrev pub reached : Option ℕ → ℕ → ℕ
reached None n = n
reached (Some v) n = v

-- the answer names o, and the slice holds what is to be left
pub record Smoothed (o : Option ℕ) (r : Result ⊤ ℕ) (now left : List Float) : Type 0 where
  pub answer : r ≡ named o
  pub content : now ≡ left

-- Loop wants weights where it moves points
abbrev pub loop_wants : Bool → Links → Option ℕ
loop_wants update m = let c = crowded m in if update c None

-- all points; or, where a vertex has no weights, the points of those below it
abbrev pub loop_left : Option ℕ → Bool → Links → List Float → List Float
loop_left None update m ps = loop_points update m ps
loop_left (Some v) update m ps = flat (map (loop_vertex update m ps) (range 0 v))

abbrev pub sqrt_left : Option ℕ → Bool → Links → List Float → List Float
sqrt_left None flag m ps = sqrt_points flag m ps
sqrt_left (Some v) flag m ps = flat (map (sqrt_vertex flag m ps) (range 0 v))

-- sqrt3: rim vertices move where the flag is true
abbrev pub sqrt_rule : Bool → Point → Point → Point → Point
sqrt_rule true = sqrt_rim
sqrt_rule false = stay
