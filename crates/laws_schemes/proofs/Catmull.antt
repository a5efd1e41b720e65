-- Catmull-Clark keeps the laws of a scheme, and what follows for its calls. Assumes nothing.
use mathlib.Core.Path.{◌≡◌, refl, sym, ap, ◌∙◌}
use mathlib.Core.Bool.{Bool}
use mathlib.Core.List.{List}
use Prim.Native.Nat.{ℕ, ◌*◌}
use native.Mathlib.Omega.{arith}
use lib.ListN.{length, length-append, length-map}
use lib.Ieee.{Float}
use Rattle.scope.specs.Links.{Links}
use Rattle.scope.specs.Points.{catmull_points}
use Rattle.scope.specs.Tally.{Tally, tally_of, catmull_tally}
use Rattle.scope.specs.Schemes.{catmull}
use Rattle.laws_mesh.specs.Of.{Good}
use Rattle.laws_mesh.proofs.Lengths.{length-range, length-flat}
use Rattle.laws_catmull.proofs.Pass.{catmull-good, catmull-quads, catmull-tally}
use Rattle.laws_call.specs.Laws.{Faced, Step, Laws}
use Rattle.laws_call.specs.Demand.{Repeats, RoomIsEnough, RepeatsExactly}
use Rattle.laws_call.specs.Made.{Makes, AddsFaces, GoesOnAdding}
use Rattle.laws_call.proofs.Demand.{repeats}
use Rattle.laws_call.proofs.Exact.{repeats-exactly}
use Rattle.laws_call.proofs.Room.{room-is-enough}
use Rattle.laws_call.proofs.Made.{makes, adds-faces, goes-on-adding}

-- a point for each vertex of the table
pub points-long : (update : Bool) (m : Links) (ps : List Float) → length (catmull_points update m ps) ≡ 3 * (catmull_tally (tally_of m)).v
unfolding catmull_points catmull_tally tally_of
points-long update m ps = length-flat _ ∙ ap (λ (n : ℕ). 3 * n) (simp (length-append, length-map, length-range) (omega arith))

step : (t : Tally) → Faced t → Step t (catmull_tally t)
unfolding catmull_tally
step t h = omega arith

pub catmull-laws : Laws catmull 4
unfolding catmull tally_of
catmull-laws = record {
  At = λ update m. Good m;
  at_good = λ update m g. g;
  at_prepared = λ update m g. refl;
  at_settled = λ update m g. refl;
  at_ready = λ update m g. refl;
  begins = λ update m g r. g;
  goes_on = λ update m g r. catmull-good m g r;
  prepare_tally = λ m g r. refl;
  pass_tally = λ update m g r. catmull-tally m g r;
  pass_sides = λ update m g r. catmull-quads m g r;
  smooth_long = λ update m ps g r l. points-long update m ps ∙ ap (λ (t : Tally). 3 * t.v) (sym (catmull-tally m g r));
  ready_vertices = λ t. refl;
  ready_step = λ t h. omega arith;
  grow_step = λ update. step;
  grow_more = λ update t h f. unfold catmull_tally in omega arith;
}

-- demand 3
pub catmull-repeats : Repeats catmull
catmull-repeats = repeats catmull 4 catmull-laws

pub catmull-room-is-enough : RoomIsEnough catmull
catmull-room-is-enough = room-is-enough catmull 4 catmull-laws

pub catmull-repeats-exactly : RepeatsExactly catmull
catmull-repeats-exactly = repeats-exactly catmull 4 catmull-laws

-- what a call that is done made: consistent, counted by the table, every face of length 4
pub catmull-makes : Makes catmull 4
catmull-makes = makes catmull 4 catmull-laws

pub catmull-adds-faces : AddsFaces catmull
catmull-adds-faces = adds-faces catmull 4 catmull-laws

pub catmull-goes-on-adding : GoesOnAdding catmull
catmull-goes-on-adding = goes-on-adding catmull 4 catmull-laws
