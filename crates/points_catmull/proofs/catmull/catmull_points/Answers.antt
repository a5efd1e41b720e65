use native.Mathlib.Omega.{arith}
use Rattle.points_catmull.proofs.PlaceLaws.{length-laid}
use Rattle.points_catmull.proofs.CatmullLaws.{catmull-whole}
use Rattle.points_catmull.proofs.catmull.catmull_points.Goals as goal

pub put-requires-2 : goal.put-requires-2
put-requires-2 c = let pre = c.requires in
    let a = length-laid _ _ _ c.put.ensures in
    let b = length-laid _ _ _ c.put_edges.ensures in omega (arith, pre.f_in_bounds)

pub returns : goal.returns
returns c = let pre = c.requires in
    catmull-whole _ _ _ _ _ _ _ pre.halves pre.outs pre.f_in_bounds c.put.ensures c.put_edges.ensures c.put-2.ensures
