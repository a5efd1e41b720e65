use Rattle.std.specs.Prelude.{◌-◌}
use Rattle.call_room.specs.Kinds.{scheme_of}
use Rattle.call_room.specs.Ahead.{AheadOf}
use Rattle.call_room.specs.Amounts.{tallied}
use Rattle.call_room.proofs.forecast.forecast.Given as goal

abbrev pub invariant-loop : goal.invariant-loop
invariant-loop l = AheadOf (scheme_of l.kind) l.k (l.k - l.counter) l.flag l.next (tallied l.initial.now) (tallied l.now)
