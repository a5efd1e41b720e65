use mathlib.Core.List.{[]}
use Rattle.points_catmull.specs.Sums.{mesh_of}
use Rattle.points_triangles.proofs.FaceLaws.{Laid}
use Rattle.points_triangles.proofs.faces.put_answers.Given as goal

abbrev pub invariant-loop-f : goal.invariant-loop-f
invariant-loop-f l = Laid l.flag (mesh_of l.faces.cage.c [] l.faces.cage.edges.now l.faces.starts.now) l.faces.cage.points.now l.faces.cage.c.v l.initial.work l.f l.at l.work
