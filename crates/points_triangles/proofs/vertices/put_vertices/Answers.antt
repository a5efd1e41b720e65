use mathlib.Core.Path.{sym, ◌∙◌}
use native.Mathlib.Omega.{arith}
use Rattle.points_catmull.proofs.PlaceLaws.{made_none}
use Rattle.points_triangles.proofs.VertexLaws.{lowest-zero, moved-some, moved_none, put_next, put_all, put_some}
use Rattle.points_triangles.proofs.vertices.put_vertices.Goals as goal

pub loop-v-init : goal.loop-v-init
loop-v-init g c = record { content = made_none _ _ _; light = lowest-zero _ }

pub returns-in-None : goal.returns-in-None
returns-in-None g c = let i = c.loop-v.invariant in
    put_some _ _ _ (omega arith) i.light (moved_none _ _ _ _ _ (sym c.in-None.is ∙ c.vertex_point.ensures)) i.content

pub loop-v-preserved : goal.loop-v-preserved
loop-v-preserved g c = let i = c.loop-v.invariant in
    let n = put_next _ _ _ _ _ c.loop-v-test.true i.content i.light (moved-some _ _ _ _ _ (sym c.in-Some.is ∙ c.vertex_point.ensures)) (omega (arith, c.requires)) c.store_point.ensures in
    record { content = n.1; light = n.2 }

pub returns : goal.returns
returns g c = put_all _ _ _ (omega arith) c.loop-v.invariant.light c.loop-v.invariant.content
