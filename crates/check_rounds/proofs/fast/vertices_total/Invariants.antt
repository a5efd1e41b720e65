use Rattle.check_rounds.specs.OnParts.{VertexTour}
use Rattle.check_rounds.proofs.fast.vertices_total.Given as goal

abbrev pub invariant-loop-v : goal.invariant-loop-v
invariant-loop-v l = VertexTour l.m l.v l.total
