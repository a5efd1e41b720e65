use Rattle.scope.specs.Lists.{number_of}
use Prim.Native.Nat.{◌+◌}
use Rattle.check_rounds.proofs.TourLaws.{count-few, count_next}
use Rattle.check_rounds.specs.Tour.{unmarked}
use mathlib.Core.Path.{refl}
use native.Mathlib.Omega.{arith}
use Rattle.check_rounds.proofs.fast.half_count.Goals as goal

pub loop-h-init : goal.loop-h-init
unfolding number_of
loop-h-init c = refl

pub overflow_add-total : goal.overflow_add-total
overflow_add-total c = let p = unmarked c.args.m.now.emarks.now in omega (arith, count_next p c.loop-h.h, count-few p (c.loop-h.h + 1), c.loop-h.invariant, c.half_bit-total.ensures, c.args.m.now.fit.few)

pub loop-h-preserved : goal.loop-h-preserved
loop-h-preserved c = let p = unmarked c.args.m.now.emarks.now in omega (arith, count_next p c.loop-h.h, c.loop-h.invariant, c.half_bit-total.ensures)
