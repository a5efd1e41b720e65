use mathlib.Core.Path.{sym, ◌∙◌}
use Rattle.scope.specs.Edits.{swap_ccw}
use Rattle.scope.specs.Passes.{swap_inner}
use Rattle.links_edits.proofs.StoreLaws.{held-is}
use Rattle.links_sqrt3.proofs.swaps.swap_inner.Goals as goal

pub returns-then-not-on_rim-clause-links_after : goal.returns-then-not-on_rim-clause-links_after
unfolding swap_inner swap_ccw
returns-then-not-on_rim-clause-links_after c = rw (sym c.on_rim.ensures ∙ c.if-not-on_rim.true) (let d = c.swap_ccw.ensures in held-is d.outs_after d.edges_after d.faces_after)

pub returns-else-not-on_rim-clause-links_after : goal.returns-else-not-on_rim-clause-links_after
unfolding swap_inner
returns-else-not-on_rim-clause-links_after c = rw (sym c.on_rim.ensures ∙ c.if-not-on_rim.false)
