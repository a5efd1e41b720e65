use Rattle.links_edits.specs.Held.{given}
use Rattle.scope.specs.Edits.{triangulate_face}
use Rattle.links_edits.proofs.FoldLaws.{Facing}
use Rattle.links_triangulate.proofs.triangulate_links.Given as goal

abbrev pub invariant-loop-f : goal.invariant-loop-f
invariant-loop-f l = Facing triangulate_face (given l.initial.d l.outs l.initial.edges l.initial.faces) l.initial.edges l.initial.faces l.f l.d l.edges l.faces
