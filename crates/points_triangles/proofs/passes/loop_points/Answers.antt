use borrow.Author.Rules.{rules}
use mathlib.Core.Path.{◌≡◌}
use Rattle.std.specs.Prelude.{Err}
use Rattle.points_triangles.proofs.PassLaws.{loop-kept, loop-moved, loop-refused}
use Rattle.points_triangles.proofs.passes.loop_points.Goals as goal
use Rattle.points_triangles.proofs.passes.loop_points.Goals.{then-update+in_ok-put_vertices, else-update}

pub returns-in_err-put_vertices : goal.returns-in_err-put_vertices
returns-in_err-put_vertices c =
    let e : c.from_residual.result ≡ Err c.in_err-put_vertices.field-0.0 = search rules in
    rw e (loop-refused _ _ _ _ _ c.args.update c.requires.outs _ c.if-update.true c.table.ensures c.put_vertices.ensures _ c.in_err-put_vertices.was)

pub returns : goal.returns
returns c = elim c.if-update.branch [
  | then-update+in_ok-put_vertices w ↦ loop-moved _ _ _ _ _ _ c.requires.outs _ w.if-update.true w.table.ensures w.put_vertices.ensures w.in_ok-put_vertices.was (rw w.work-is at c.put_edges.ensures)
  | else-update w ↦ loop-kept _ _ _ _ _ _ w.if-update.false w.put_kept.ensures (rw w.work-is at c.put_edges.ensures)
]
