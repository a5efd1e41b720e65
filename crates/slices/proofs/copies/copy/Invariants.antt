use mathlib.Core.Path.{◌≡◌}
use lib.ListN.{take}
use Rattle.scope.specs.Lists.{over}
use Rattle.slices.proofs.copies.copy.Given as goal

abbrev pub invariant-loop-i : goal.invariant-loop-i
invariant-loop-i g l = l.dst ≡ over (take l.i l.src) l.initial.dst
