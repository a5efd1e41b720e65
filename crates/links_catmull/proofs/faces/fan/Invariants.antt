use Prim.Native.Nat.{◌+◌, ◌*◌}
use mathlib.Core.List.{[]}
use Rattle.scope.specs.Edits.{petals}
use Rattle.scope.specs.Passes.{pairs}
use Rattle.laws_mesh.proofs.Loops.{steps}
use Rattle.mesh.specs.Words.{next_at}
use Rattle.links_edits.specs.Held.{held}
use Rattle.links_catmull.proofs.StepLaws.{Fanning}
use Rattle.links_catmull.proofs.faces.fan.Given as goal

abbrev pub invariant-loop-i : goal.invariant-loop-i
invariant-loop-i l =
    Fanning (next_at l.initial.edges) l.c l.e l.n l.i l.own (l.g + l.i) l.h (held 0 0 0 [] l.edges l.faces) (petals l.c l.e l.n 0 (pairs l.f l.g (steps (next_at l.initial.edges) l.a (2 * l.n))) (held 0 0 0 [] l.initial.edges l.initial.faces))
