-- sqrt3 keeps the laws of a scheme, and what follows for its calls. Assumes nothing.
use mathlib.Core.Path.{◌≡◌, refl, ◌∙◌}
use mathlib.Core.Bool.{Bool, true, false, not, false≢true}
use Rattle.std.specs.Prelude.{Option, None, Some}
use Prim.Native.Nat.{ℕ, ◌<◌}
use native.Mathlib.Omega.{arith}
use Rattle.scope.specs.Links.{Links}
use Rattle.scope.specs.Edits.{triangulate}
use Rattle.scope.specs.Passes.{sqrt_pass}
use Rattle.scope.specs.Tally.{Tally, tally_of, triangulated, sqrt_tally}
use Rattle.scope.specs.Schemes.{two_rims, settled, sqrt3}
use Rattle.laws_mesh.specs.Of.{Good}
use Rattle.laws_mesh.specs.Sides.{Within, Triangles}
use Rattle.laws_triangulate.proofs.Triangulate.{triangulate-good, triangulate-triangles, triangulate-tally, triangulate-same}
use Rattle.laws_sqrt3.proofs.Pass.{two_rims-after, sqrt-pass}
use Rattle.laws_sqrt3.proofs.Points.{sqrt-points-long}
use Rattle.laws_call.specs.Laws.{Faced, Step, Laws}
use Rattle.laws_call.specs.Demand.{Repeats, RoomIsEnough, RepeatsExactly}
use Rattle.laws_call.specs.Made.{Makes, AddsFaces, GoesOnAdding}
use Rattle.laws_call.proofs.Demand.{repeats}
use Rattle.laws_call.proofs.Exact.{repeats-exactly}
use Rattle.laws_call.proofs.Room.{room-is-enough}
use Rattle.laws_call.proofs.Made.{makes, adds-faces, goes-on-adding}
use Rattle.laws_schemes.proofs.Triangles.{triangles-ready, triangulated-step}

-- ---- the table
step : (flag : Bool) (t : Tally) → Faced t → Step t (sqrt_tally flag t)
unfolding sqrt_tally
step true t h = omega arith
step false t h = omega arith

more : (flag : Bool) (t : Tally) → 0 < t.f → t.f < (sqrt_tally flag t).f
unfolding sqrt_tally
more flag t h = omega arith

-- ---- the flag
settled-twice : (o : Option ℕ) (flag : Bool) → settled o (settled o flag) ≡ settled o flag
settled-twice None flag = refl
settled-twice (Some f) flag = refl

settled-false : (o : Option ℕ) → settled o false ≡ false
settled-false None = refl
settled-false (Some f) = refl

settled-none : (o : Option ℕ) (flag : Bool) → settled o flag ≡ flag → flag ≡ true → o ≡ None
settled-none None flag e h = refl
settled-none (Some f) flag e h = absurd (false≢true (e ∙ h))

-- where a pass may begin: triangles, and the flag is settled
record At (flag : Bool) (m : Links) : Type 0 where
  pub good : Good m
  pub three : Triangles m
  pub still : settled (two_rims m) flag ≡ flag

single : (flag : Bool) (m : Links) → At flag m → flag ≡ true → two_rims m ≡ None
single flag m h = settled-none (two_rims m) flag h.still

passed : (flag : Bool) (m : Links) → At flag m → Within (sqrt_tally flag (tally_of m)) →
    Good (sqrt_pass flag m) × Triangles (sqrt_pass flag m) × (tally_of (sqrt_pass flag m) ≡ sqrt_tally flag (tally_of m))
passed flag m h r = sqrt-pass flag m h.good h.three (single flag m h) r

turned : (flag : Bool) (m : Links) → At flag m → Within (sqrt_tally flag (tally_of m)) → settled (two_rims (sqrt_pass flag m)) (not flag) ≡ not flag
turned true m h r = settled-false (two_rims (sqrt_pass true m))
turned false m h r = rw (two_rims-after m h.good h.three r)

pub sqrt3-laws : Laws sqrt3 3
unfolding sqrt3
sqrt3-laws = record {
  At = At;
  at_good = λ flag m h. h.good;
  at_prepared = λ flag m h. triangulate-same m h.three;
  at_settled = λ flag m h. h.still;
  at_ready = λ flag m h. triangles-ready m h.three;
  begins = λ flag m g r. record { good = triangulate-good m g r; three = triangulate-triangles m g r; still = settled-twice (two_rims (triangulate m)) flag };
  goes_on = λ flag m h r. record { good = (passed flag m h r).0; three = (passed flag m h r).1; still = turned flag m h r };
  prepare_tally = λ m g r. triangulate-tally m g r;
  pass_tally = λ flag m h r. (passed flag m h r).2;
  pass_sides = λ flag m h r. (passed flag m h r).1;
  smooth_long = λ flag m ps h r l. sqrt-points-long flag m ps h.good h.three (single flag m h) r;
  ready_vertices = λ t. unfold triangulated in refl;
  ready_step = triangulated-step;
  grow_step = step;
  grow_more = λ flag t h f. more flag t f;
}

-- demand 3, with the flag that turns
pub sqrt3-repeats : Repeats sqrt3
sqrt3-repeats = repeats sqrt3 3 sqrt3-laws

pub sqrt3-room-is-enough : RoomIsEnough sqrt3
sqrt3-room-is-enough = room-is-enough sqrt3 3 sqrt3-laws

pub sqrt3-repeats-exactly : RepeatsExactly sqrt3
sqrt3-repeats-exactly = repeats-exactly sqrt3 3 sqrt3-laws

-- what a call that is done made: consistent, counted by the table, every face a triangle
pub sqrt3-makes : Makes sqrt3 3
sqrt3-makes = makes sqrt3 3 sqrt3-laws

pub sqrt3-adds-faces : AddsFaces sqrt3
sqrt3-adds-faces = adds-faces sqrt3 3 sqrt3-laws

pub sqrt3-goes-on-adding : GoesOnAdding sqrt3
sqrt3-goes-on-adding = goes-on-adding sqrt3 3 sqrt3-laws
