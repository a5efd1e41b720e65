use Rattle.std.proofs.Common.{sym, ◌∙◌}
use Rattle.count_line.proofs.MarkLaws.{face-there, edge-there, vertex-there}
use Rattle.count_line.proofs.tell.deleted.Goals as goal
use Rattle.count_line.proofs.tell.deleted.Goals.{then-is_set, else-is_set}

pub returns-then-is_set-2 : goal.returns-then-is_set-2
returns-then-is_set-2 c =
    c.if-is_set-2.true ∙ elim c.if-is_set.branch [
      | then-is_set w ↦ face-there _ _ _ c.is_set.ensures w.if-is_set.true
      | else-is_set w ↦ edge-there _ _ _ c.is_set.ensures w.if-is_set.false w.is_set-else-is_set.ensures (sym w.value-is ∙ c.if-is_set-2.true)
    ]

pub returns-else-is_set-2 : goal.returns-else-is_set-2
returns-else-is_set-2 c =
    elim c.if-is_set.branch [
      | then-is_set w ↦ cc
      | else-is_set w ↦ vertex-there _ _ _ c.is_set.ensures w.if-is_set.false w.is_set-else-is_set.ensures (sym w.value-is ∙ c.if-is_set-2.false) c.is_set-else-is_set-2.ensures
    ]
