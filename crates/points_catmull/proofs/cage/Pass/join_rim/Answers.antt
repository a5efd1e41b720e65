use mathlib.Core.Path.{sym, ◌∙◌}
use Rattle.points_catmull.proofs.CatmullLaws.{joined-yes, joined-no}
use Rattle.points_catmull.proofs.cage.Pass.join_rim.Goals as goal

pub returns-then-rim_edge : goal.returns-then-rim_edge
returns-then-rim_edge c = c.plus.ensures ∙ joined-yes _ _ (sym c.rim_edge.ensures ∙ c.if-rim_edge.true) (rw c.load_point.ensures)

pub returns-else-rim_edge : goal.returns-else-rim_edge
returns-else-rim_edge c = joined-no _ _ (sym c.rim_edge.ensures ∙ c.if-rim_edge.false)
