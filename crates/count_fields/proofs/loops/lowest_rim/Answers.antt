use mathlib.Core.Path.{sym, ◌∙◌}
use Rattle.mesh.proofs.RoundLaws.{walk-has}
use Rattle.count_fields.specs.Count.{lowest_rim}
use Rattle.count_fields.proofs.loops.lowest_rim.Goals as goal

pub rim-requires : goal.rim-requires
rim-requires c = walk-has c.requires

pub returns-then-rim : goal.returns-then-rim
unfolding lowest_rim
returns-then-rim c = rw (sym c.rim.ensures ∙ c.if-rim.true, ← c.meets_lower.ensures)

pub returns-else-rim : goal.returns-else-rim
unfolding lowest_rim
returns-else-rim c = rw (sym c.rim.ensures ∙ c.if-rim.false, c.if-rim.false)
