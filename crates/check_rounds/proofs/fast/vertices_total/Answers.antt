use Prim.Native.Nat.{◌*◌}
use Rattle.check_rounds.proofs.TourLaws.{count-few, tour-few, tour-start}
use Rattle.check_rounds.specs.Tour.{unmarked}
use native.Mathlib.Omega.{arith}
use Rattle.check_rounds.proofs.fast.vertices_total.Goals as goal

pub loop-v-init : goal.loop-v-init
loop-v-init c = tour-start

pub overflow_add-total : goal.overflow_add-total
overflow_add-total c = let m = c.args.m.now.halves in omega (arith, tour-few (c.vertex_length-total.ensures c.loop-v.total c.loop-v.invariant), count-few (unmarked m.emarks.now) (2 * m.ne), m.fit.few)

pub loop-v-preserved : goal.loop-v-preserved
loop-v-preserved c = c.vertex_length-total.ensures c.loop-v.total c.loop-v.invariant
