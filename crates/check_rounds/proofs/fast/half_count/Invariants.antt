use Rattle.check_rounds.specs.Tour.{unmarked}
use Rattle.laws_mesh.specs.Count.{count}
use mathlib.Core.Path.{◌≡◌}
use Rattle.check_rounds.proofs.fast.half_count.Given as goal

abbrev pub invariant-loop-h : goal.invariant-loop-h
invariant-loop-h l = l.total ≡ count (unmarked l.m.emarks.now) l.h
