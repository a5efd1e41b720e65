use Rattle.check_rules.specs.Place.{LowBy}
use Rattle.check_rounds.proofs.low.lowest.Given as goal

abbrev pub invariant-loop-k : goal.invariant-loop-k
invariant-loop-k g l = LowBy (goal.F-post g l.ok l.m) (goal.P-post g l.place l.m) l.k l.best
