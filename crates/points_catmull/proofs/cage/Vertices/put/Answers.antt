use Prim.Native.Nat.{◌<◌}
use mathlib.Core.Path.{◌∙◌}
use native.Mathlib.Omega.{arith}
use Rattle.points_catmull.proofs.PlaceLaws.{made_none, laid-first, laid-behind}
use Rattle.points_catmull.proofs.CatmullLaws.{vertex-same}
use Rattle.points_catmull.proofs.cage.Vertices.put.Goals as goal

pub loop-v-init : goal.loop-v-init
loop-v-init c = made_none _ _ _

pub loop-v-preserved : goal.loop-v-preserved
loop-v-preserved c = let b : c.loop-v.v < c.args.self.now.cage.c.v = omega arith in
    let p =
    c.point-p.ensures
    ∙ vertex-same _ _ _ _ _ c.args.self.now.cage.halves c.args.self.now.outs_in _ _ _ _
    (λ i l. laid-behind _ _ 0 _ c.loop-v.invariant _ (omega arith))
    _
    (λ u i l. laid-behind _ _ 0 _ c.loop-v.invariant _ (omega arith))
    _ b in
    laid-first _ _ c.loop-v.invariant p c.store_point.ensures (omega (arith, c.requires))
