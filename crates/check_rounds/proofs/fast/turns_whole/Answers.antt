use Rattle.std.proofs.Common.{rules}
use Rattle.check_rounds.proofs.TourLaws.{turn-whole}
use Rattle.check_rules.proofs.Searches.{found-all}
use borrow.Author.Tests.{eqb-true}
use mathlib.Core.Path.{◌∙◌}
use Rattle.check_rounds.proofs.fast.turns_whole.Goals as goal

pub returns-then-is_none : goal.returns-then-is_none
returns-then-is_none c = λ e. turn-whole (record { leave = found-all c.all_leave.ensures (search rules) }) (rw c.of-vertices.ensures at c.vertices_total.ensures) (eqb-true _ _ e ∙ rw c.of-vertices.ensures at c.half_count.ensures)
