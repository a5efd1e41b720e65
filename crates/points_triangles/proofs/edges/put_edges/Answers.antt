use native.Mathlib.Omega.{arith}
use Rattle.points_catmull.proofs.PlaceLaws.{made_none, laid-next}
use Rattle.points_triangles.proofs.edges.put_edges.Goals as goal

pub loop-e-init : goal.loop-e-init
loop-e-init c = made_none _ _ _

pub loop-e-preserved : goal.loop-e-preserved
loop-e-preserved c = laid-next _ _ _ c.loop-e.invariant c.edge_point.ensures c.store_point.ensures (omega (arith, c.requires))
