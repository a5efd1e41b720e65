use mathlib.Core.Path.{◌∙◌}
use Rattle.std.proofs.Common.{rules}
use Rattle.scope.specs.Lists.{each}
use Rattle.links_edits.proofs.FoldLaws.{each-more}
use Rattle.links_sqrt3.proofs.swaps.swap_edges.Goals as goal

pub loop-e-init : goal.loop-e-init
unfolding each
loop-e-init c = search rules

pub loop-e-preserved : goal.loop-e-preserved
loop-e-preserved c = record {
  same_slices = search rules;
  so_far = c.swap_inner.ensures.links_after ∙ each-more _ _ _ c.loop-e.invariant.so_far;
}
