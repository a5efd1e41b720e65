use Rattle.check_rounds.specs.Tour.{bearing}
use Rattle.laws_mesh.specs.Count.{count}
use mathlib.Core.Path.{◌≡◌}
use Rattle.check_rounds.proofs.fast.bearing_count.Given as goal

abbrev pub invariant-loop-h : goal.invariant-loop-h
invariant-loop-h l = l.total ≡ count (bearing l.m.edges.now l.m.emarks.now) l.h
