use native.Mathlib.Omega.{arith}
use Rattle.points_catmull.proofs.PlaceLaws.{made_none, laid-first}
use Rattle.points_triangles.proofs.vertices.put_kept.Goals as goal

pub loop-v-init : goal.loop-v-init
loop-v-init c = made_none _ _ _

pub loop-v-preserved : goal.loop-v-preserved
loop-v-preserved c = laid-first _ _ c.loop-v.invariant c.load_point.ensures c.store_point.ensures (omega (arith, c.requires.v_in_bounds_2))
