use Rattle.std.proofs.Common.{◌≡◌, ◌+◌, ◌-◌}
use Rattle.call_room.proofs.AheadLaws.{ahead-next, ahead-over}
use native.Mathlib.Omega.{arith}
use Rattle.laws_check.proofs.Tells.{is-not}
use Rattle.call_room.proofs.forecast.forecast.Goals as goal

pub returns-then-not-within : goal.returns-then-not-within
returns-then-not-within c = ahead-over c.args.kind c.loop.invariant (is-not c.within.ensures c.if-not-within.true)

pub loop-preserved : goal.loop-preserved
loop-preserved c =
    let e : c.args.k - (c.loop.counter + 1) ≡ c.args.k - c.loop.counter - 1 = omega arith in
    rw e (ahead-next c.args.kind c.loop.invariant (omega arith) c.grow-now.ensures c.turn-next.ensures)

pub returns-then-not-within-2 : goal.returns-then-not-within-2
returns-then-not-within-2 c = ahead-over c.args.kind c.loop.invariant (is-not c.within-2.ensures c.if-not-within-2.true)
