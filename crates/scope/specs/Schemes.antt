-- The three schemes by their parts (document 01, section 3). Assumes nothing.
use Rattle.std.specs.Prelude.{ℕ, Bool, true, false, not, leb, ltb, length, Option, None, Some}
use Rattle.scope.specs.Lists.{if, only, first}
use Rattle.scope.specs.Links.{Links, partner, start, rim, rim_vertex, loop, around}
use Rattle.scope.specs.Edits.{triangulate}
use Rattle.scope.specs.Passes.{catmull_pass, loop_pass, sqrt_pass}
use Rattle.scope.specs.Points.{catmull_points, loop_points, sqrt_points}
use Rattle.scope.specs.Tally.{triangulated, catmull_tally, loop_tally, sqrt_tally}
use Rattle.scope.specs.Call.{Scheme}

-- §4, answer 6: the lowest interior vertex of valence 64 or more
unfoldable pub crowded : Links → Option ℕ
crowded m = first m.nv (λ v. not (rim_vertex m v)) (λ v. ltb (length (around m v)) 64)

-- the first face with more than one rim edge
unfoldable pub two_rims : Links → Option ℕ
two_rims m = first m.nf (λ f. true) (λ f. leb (length (only (λ h. rim m (partner h)) (loop m (start m f)))) 1)

-- §3: the flag is made false if any face has more than one rim edge
abbrev pub settled : Option ℕ → Bool → Bool
settled None flag = flag
settled (Some f) flag = false

-- the flag is the update flag: without it old points are kept
unfoldable pub catmull : Scheme
catmull = record {
  prepare = λ m. m;
  settle = λ m update. update;
  ready = λ t. t;
  pass = λ update. catmull_pass;
  smooth = catmull_points;
  grow = λ update. catmull_tally;
  turn = λ update. update;
  weightless = λ update m. None;
}

unfoldable pub loop_scheme : Scheme
loop_scheme = record {
  prepare = triangulate;
  settle = λ m update. update;
  ready = triangulated;
  pass = λ update. loop_pass;
  smooth = loop_points;
  grow = λ update. loop_tally;
  turn = λ update. update;
  weightless = λ update m. let c = crowded m in if update c None;
}

-- the flag turns after each pass
unfoldable pub sqrt3 : Scheme
sqrt3 = record {
  prepare = triangulate;
  settle = λ m flag. settled (two_rims m) flag;
  ready = triangulated;
  pass = sqrt_pass;
  smooth = sqrt_points;
  grow = sqrt_tally;
  turn = not;
  weightless = λ flag. crowded;
}
