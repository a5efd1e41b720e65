use Rattle.std.proofs.Common.{◌*◌, ◌≤◌}
use Rattle.runs_catmull.proofs.run.Given as goal

abbrev pub invariant-loop : goal.invariant-loop
invariant-loop g l = (l.total.cases ≤ l.counter) × (l.total.differences ≤ 9 * l.counter)
