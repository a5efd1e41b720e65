use Rattle.std.proofs.Common.{◌≡◌, ◌++◌, drop, replicate}
use Rattle.slices.proofs.copies.clear.Given as goal

abbrev pub invariant-loop-x : goal.invariant-loop-x
invariant-loop-x g l = l.x-items ≡ replicate l.x-index l.z ++ drop l.x-index (drop l.n l.fn.s)
