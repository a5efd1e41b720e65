use Rattle.scope.specs.Passes.{loop_face}
use Rattle.links_edits.specs.Held.{given}
use Rattle.links_edits.proofs.FoldLaws.{Facing}
use Rattle.links_loop.proofs.faces.loop_faces.Given as goal

abbrev pub invariant-loop-f : goal.invariant-loop-f
invariant-loop-f l = Facing (loop_face l.old) (given l.initial.d l.outs l.initial.edges l.initial.faces) l.initial.edges l.initial.faces l.f l.d l.edges l.faces
