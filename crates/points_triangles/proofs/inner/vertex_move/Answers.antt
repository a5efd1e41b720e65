use mathlib.Core.Path.{sym, ◌∙◌}
use Rattle.points_triangles.proofs.VertexLaws.{move-alone, move-rim, move-inner}
use Rattle.points_triangles.proofs.inner.vertex_move.Goals as goal

pub returns-then-h : goal.returns-then-h
returns-then-h g c = move-alone _ _ _ _ _ _ c.load_point-p.ensures (sym c.out-h.ensures ∙ c.if-h.true)

pub returns-then-rim : goal.returns-then-rim
returns-then-rim g c = move-rim _ _ _ _ _ _ c.load_point-p.ensures _ c.out-h.ensures c.if-h.false (sym c.rim.ensures ∙ c.if-rim.true) c.rim_point.ensures

pub returns : goal.returns
returns g c = move-inner _ _ _ _ _ _ c.load_point-p.ensures _ c.out-h.ensures c.if-h.false (sym c.rim.ensures ∙ c.if-rim.false) c.inner_move.ensures
