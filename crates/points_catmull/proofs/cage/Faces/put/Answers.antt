use native.Mathlib.Omega.{arith}
use Rattle.points_catmull.proofs.PlaceLaws.{made_none, laid-next}
use Rattle.points_catmull.proofs.cage.Faces.put.Goals as goal

pub loop-f-init : goal.loop-f-init
loop-f-init c = made_none _ _ _

pub loop-f-preserved : goal.loop-f-preserved
loop-f-preserved c = laid-next _ _ _ c.loop-f.invariant c.point.ensures c.store_point.ensures (omega (arith, c.requires))
