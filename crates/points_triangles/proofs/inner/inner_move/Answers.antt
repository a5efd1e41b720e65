use mathlib.Core.Path.{sym, ◌∙◌}
use Rattle.mesh.proofs.RoundLaws.{walk_turn}
use Rattle.points_triangles.proofs.VertexLaws.{inner-row, inner-none}
use Rattle.points_triangles.proofs.inner.inner_move.Goals as goal

pub heads-s-requires : goal.heads-s-requires
heads-s-requires c = let h = c.args.cage.now.halves in walk_turn h.there h.prev_in _ c.requires

pub returns-in_err-row : goal.returns-in_err-row
returns-in_err-row c = c.from_residual.ensures ∙ inner-none _ _ _ _ _ c.heads-s.ensures (sym c.find.ensures ∙ c.in_err-row.was)

pub returns : goal.returns
returns c = inner-row _ _ _ _ _ c.heads-s.ensures (sym c.find.ensures ∙ c.in_ok-row.was)
