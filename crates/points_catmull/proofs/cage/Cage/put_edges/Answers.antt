use mathlib.Core.Path.{◌∙◌}
use native.Mathlib.Omega.{arith}
use Rattle.points_catmull.proofs.PlaceLaws.{made_none, laid-next, laid-behind}
use Rattle.points_catmull.proofs.CatmullLaws.{edge_same}
use Rattle.points_catmull.proofs.cage.Cage.put_edges.Goals as goal

pub loop-e-init : goal.loop-e-init
loop-e-init c = made_none _ _ _

pub loop-e-preserved : goal.loop-e-preserved
loop-e-preserved c = let p =
    c.edge_point-p.ensures
    ∙ edge_same _ _ _ _ _ c.args.self.now.halves _ _
    (λ i l. laid-behind _ _ _ _ c.loop-e.invariant _ (omega arith))
    _ _ (omega arith) in
    laid-next _ _ _ c.loop-e.invariant p c.store_point.ensures (omega (arith, c.requires))
