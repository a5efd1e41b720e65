use Rattle.std.proofs.Common.{rules}
use Rattle.check_rules.proofs.Searches.{low-start, low-pass, low_step}
use Rattle.check_rounds.proofs.low.lowest.Goals as goal
use Rattle.check_rounds.proofs.low.lowest.Goals.{then-not-ok, else-not-ok}

pub loop-k-init : goal.loop-k-init
loop-k-init g c = low-start

pub loop-k-preserved : goal.loop-k-preserved
loop-k-preserved g c = elim c.if-not-ok.branch [
  | then-not-ok w ↦ rw w.best-is (low_step c.loop-k.invariant (search rules) w.place.ensures w.lower-best.ensures)
  | else-not-ok w ↦ rw w.best-is (low-pass c.loop-k.invariant (search rules))
]
