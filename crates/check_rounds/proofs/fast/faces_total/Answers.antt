use Prim.Native.Nat.{◌*◌}
use Rattle.check_rounds.proofs.TourLaws.{count-few, tour-few, tour-start}
use Rattle.check_rounds.specs.Tour.{bearing}
use native.Mathlib.Omega.{arith}
use Rattle.check_rounds.proofs.fast.faces_total.Goals as goal

pub loop-f-init : goal.loop-f-init
loop-f-init c = tour-start

pub overflow_add-total : goal.overflow_add-total
overflow_add-total c = let m = c.args.m.now.halves in omega (arith, tour-few (c.face_length-total.ensures c.loop-f.total c.loop-f.invariant), count-few (bearing m.edges.now m.emarks.now) (2 * m.ne), m.fit.few)

pub loop-f-preserved : goal.loop-f-preserved
loop-f-preserved c = c.face_length-total.ensures c.loop-f.total c.loop-f.invariant
