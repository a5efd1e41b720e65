use mathlib.Core.Path.{refl, ap, ◌∙◌}
use native.Mathlib.Omega.{arith}
use Rattle.std.specs.Prelude.{Some}
use Rattle.points_triangles.proofs.VertexLaws.{point-none, point-to, by_row, point-by}
use Rattle.points_triangles.proofs.inner.vertex_point.Goals as goal

pub returns-in_err-p : goal.returns-in_err-p
returns-in_err-p g c = c.from_residual.ensures ∙ point-none _ _ _ _ c.vertex_move.ensures _ c.in_err-p.was

pub offset_bounds-rows-row : goal.offset_bounds-rows-row
offset_bounds-rows-row g c = let l = by_row _ _ _ _ c.vertex_move.ensures (c.in_ok-p.was ∙ ap Some c.in-By.is) in record { fits = omega arith }

pub bounds-rows-row : goal.bounds-rows-row
bounds-rows-row g c = by_row _ _ _ _ c.vertex_move.ensures (c.in_ok-p.was ∙ ap Some c.in-By.is)

pub returns-in-To : goal.returns-in-To
returns-in-To g c = point-to _ _ _ _ c.vertex_move.ensures _ (c.in_ok-p.was ∙ ap Some c.in-To.is)

pub returns-in-By : goal.returns-in-By
returns-in-By g c = point-by _ _ _ _ c.vertex_move.ensures (c.in_ok-p.was ∙ ap Some c.in-By.is) _ refl c.weighted.ensures
