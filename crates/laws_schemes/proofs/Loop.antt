-- Loop keeps the laws of a scheme, and what follows for its calls. Assumes nothing.
use mathlib.Core.Path.{◌≡◌, refl, sym, ap, ◌∙◌}
use mathlib.Core.Bool.{Bool}
use mathlib.Core.List.{List}
use Prim.Native.Nat.{ℕ, ◌*◌}
use native.Mathlib.Omega.{arith}
use lib.ListN.{length, length-append, length-map}
use lib.Ieee.{Float}
use Rattle.scope.specs.Links.{Links}
use Rattle.scope.specs.Points.{loop_points}
use Rattle.scope.specs.Tally.{Tally, tally_of, triangulated, loop_tally}
use Rattle.scope.specs.Schemes.{loop_scheme}
use Rattle.laws_mesh.specs.Of.{Good}
use Rattle.laws_mesh.specs.Sides.{Triangles}
use Rattle.laws_mesh.proofs.Lengths.{length-range, length-flat}
use Rattle.laws_loop.proofs.Pass.{loop-good, loop-triangles, loop-tally}
use Rattle.laws_triangulate.proofs.Triangulate.{triangulate-good, triangulate-triangles, triangulate-tally, triangulate-same}
use Rattle.laws_call.specs.Laws.{Faced, Step, Laws}
use Rattle.laws_call.specs.Demand.{Repeats, RoomIsEnough, RepeatsExactly}
use Rattle.laws_call.specs.Made.{Makes, AddsFaces, GoesOnAdding}
use Rattle.laws_call.proofs.Demand.{repeats}
use Rattle.laws_call.proofs.Exact.{repeats-exactly}
use Rattle.laws_call.proofs.Room.{room-is-enough}
use Rattle.laws_call.proofs.Made.{makes, adds-faces, goes-on-adding}
use Rattle.laws_schemes.proofs.Triangles.{triangles-ready, triangulated-step}

long : (update : Bool) (m : Links) (ps : List Float) → length (loop_points update m ps) ≡ 3 * (loop_tally (tally_of m)).v
unfolding loop_points loop_tally tally_of
long update m ps = length-flat _ ∙ ap (λ (n : ℕ). 3 * n) (simp (length-append, length-map, length-range))

step : (t : Tally) → Faced t → Step t (loop_tally t)
unfolding loop_tally
step t h = omega arith

pub loop-laws : Laws loop_scheme 3
unfolding loop_scheme tally_of
loop-laws = record {
  At = λ update m. Good m × Triangles m;
  at_good = λ update m h. h.0;
  at_prepared = λ update m h. triangulate-same m h.1;
  at_settled = λ update m h. refl;
  at_ready = λ update m h. triangles-ready m h.1;
  begins = λ update m g r. (triangulate-good m g r, triangulate-triangles m g r);
  goes_on = λ update m h r. (loop-good m h.0 h.1 r, loop-triangles m h.0 h.1 r);
  prepare_tally = λ m g r. triangulate-tally m g r;
  pass_tally = λ update m h r. loop-tally m h.0 h.1 r;
  pass_sides = λ update m h r. loop-triangles m h.0 h.1 r;
  smooth_long = λ update m ps h r l. long update m ps ∙ ap (λ (t : Tally). 3 * t.v) (sym (loop-tally m h.0 h.1 r));
  ready_vertices = λ t. unfold triangulated in refl;
  ready_step = triangulated-step;
  grow_step = λ update. step;
  grow_more = λ update t h f. unfold loop_tally in omega arith;
}

-- demand 3
pub loop-repeats : Repeats loop_scheme
loop-repeats = repeats loop_scheme 3 loop-laws

pub loop-room-is-enough : RoomIsEnough loop_scheme
loop-room-is-enough = room-is-enough loop_scheme 3 loop-laws

pub loop-repeats-exactly : RepeatsExactly loop_scheme
loop-repeats-exactly = repeats-exactly loop_scheme 3 loop-laws

-- what a call that is done made: consistent, counted by the table, every face a triangle
pub loop-makes : Makes loop_scheme 3
loop-makes = makes loop_scheme 3 loop-laws

pub loop-adds-faces : AddsFaces loop_scheme
loop-adds-faces = adds-faces loop_scheme 3 loop-laws

pub loop-goes-on-adding : GoesOnAdding loop_scheme
loop-goes-on-adding = goes-on-adding loop_scheme 3 loop-laws
