-- The points that a face gets under sqrt3, and where they are put. Assumes nothing.
use Rattle.std.specs.Prelude.{ℕ, ◌+◌, List, Float}
use Rattle.scope.specs.declared.records.FacePoints.{FacePoints}
use Rattle.scope.specs.declared.records.FacePoints.TheVariants.{Centre, Pair}
use Rattle.scope.specs.Rules.{sqrt_pair}
use Rattle.scope.specs.Links.{Links, partner, head, next, prev, tail}
use Rattle.scope.specs.Points.{point_at}
use Rattle.mesh.specs.Words.{put_point}

-- the pair on the edge of h, whose partner is on the rim
unfoldable pub pair_on : Links → List Float → ℕ → FacePoints
pair_on m ps h =
    let r = partner h in
    sqrt_pair (point_at ps (head m (next m r))) (point_at ps (head m r)) (point_at ps (tail m r)) (point_at ps (tail m (prev m r)))

abbrev pub put_given : List Float → ℕ → FacePoints → List Float
put_given l at (Centre p) = put_point l at p
put_given l at (Pair p q) = put_point (put_point l at p) (at + 1) q
