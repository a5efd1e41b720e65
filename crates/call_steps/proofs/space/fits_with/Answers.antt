use Prim.Native.Nat.{◌/◌}
use borrow.Author.Tests.{lt-leb}
use native.Mathlib.Omega.{arith}
use lib.ListN.{length}
use Rattle.scope.specs.Slices.{sizes}
use Rattle.mesh.specs.Given.{lists}
use Rattle.call_steps.proofs.RoomLaws.{with_points, without-points}
use Rattle.call_steps.proofs.space.fits_with.Goals as goal

pub returns-then-c-points : goal.returns-then-c-points
returns-then-c-points c = let s = c.args in with_points s.c (sizes (lists s.s)) (length s.points.now) (λ l. omega arith) c.fits.ensures

pub returns-else-c-points : goal.returns-else-c-points
returns-else-c-points c = let s = c.args in rw (lt-leb s.c.v (length s.points.now / 3) c.if-c-points.false) (without-points s.c (sizes (lists s.s)) (length s.points.now) c.if-c-points.false)
