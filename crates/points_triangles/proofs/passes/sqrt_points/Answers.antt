use borrow.Author.Rules.{rules}
use mathlib.Core.Path.{◌≡◌}
use Rattle.std.specs.Prelude.{Err}
use Rattle.points_triangles.proofs.PassLaws.{sqrt-moved, sqrt-refused}
use Rattle.points_triangles.proofs.passes.sqrt_points.Goals as goal
use Rattle.points_triangles.proofs.passes.sqrt_points.Goals.{then-flag+in_ok-put_vertices, else-flag+in_ok-put_vertices-2}

pub returns-in_err-put_vertices : goal.returns-in_err-put_vertices
returns-in_err-put_vertices c =
    let e : c.from_residual.result ≡ Err c.in_err-put_vertices.field-0.0 = search rules in
    rw e (sqrt-refused _ _ _ _ _ _ c.args.flag c.requires.outs _ (rw c.if-flag.true) c.table-rows.ensures c.put_vertices.ensures _ c.in_err-put_vertices.was)

pub returns-in_err-put_vertices-2 : goal.returns-in_err-put_vertices-2
returns-in_err-put_vertices-2 c =
    let e : c.from_residual-in_err-put_vertices-2.result ≡ Err c.in_err-put_vertices-2.field-0.0 = search rules in
    rw e (sqrt-refused _ _ _ _ _ _ c.args.flag c.requires.outs _ (rw c.if-flag.false) c.table-rows.ensures c.put_vertices-else-flag.ensures _ c.in_err-put_vertices-2.was)

pub returns : goal.returns
returns c = elim c.if-flag.branch [
  | then-flag+in_ok-put_vertices w ↦ sqrt-moved _ _ _ _ _ _ _ c.requires.outs _ (rw w.if-flag.true) c.table-rows.ensures w.put_vertices.ensures w.in_ok-put_vertices.was (rw w.work-is at c.put_answers.ensures)
  | else-flag+in_ok-put_vertices-2 w ↦ sqrt-moved _ _ _ _ _ _ _ c.requires.outs _ (rw w.if-flag.false) c.table-rows.ensures w.put_vertices-else-flag.ensures w.in_ok-put_vertices-2.was (rw w.work-is at c.put_answers.ensures)
]
