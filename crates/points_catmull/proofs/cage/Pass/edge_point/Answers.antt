use mathlib.Core.Path.{sym, ◌∙◌}
use Rattle.points_catmull.proofs.CatmullLaws.{edge-still, edge-rim, edge-inner}
use Rattle.points_catmull.proofs.cage.Pass.edge_point.Goals as goal
use Rattle.points_catmull.proofs.cage.Pass.edge_point.Goals.{then-not-update-via-then-not-update, then-not-update-via-else-not-update+then-rim_edge}

pub returns-then-not-update : goal.returns-then-not-update
returns-then-not-update c =
    let a = c.head_point-a.ensures in
    let b = c.head_point-b.ensures in
    elim c.then-not-update.branch [
      | then-not-update-via-then-not-update w ↦ edge-still _ _ _ _ _ a b w.if-not-update.true c.middle.ensures
      | then-not-update-via-else-not-update+then-rim_edge w ↦ edge-rim _ _ _ _ _ a b w.if-not-update.false (sym w.rim_edge.ensures ∙ w.if-rim_edge.true) c.middle.ensures
    ]

pub returns : goal.returns
returns c = edge-inner _ _ _ _ _ c.head_point-a.ensures c.head_point-b.ensures
    c.if-not-update.false (sym c.rim_edge.ensures ∙ c.if-rim_edge.false) c.face_point.ensures c.face_point-2.ensures c.cc_edge.ensures
