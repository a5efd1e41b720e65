use mathlib.Core.Path.{◌≡◌}
use Rattle.scope.specs.Lists.{each}
use Rattle.scope.specs.Passes.{swap_inner}
use Rattle.links_edits.specs.Lent.{links_in, SameSlices}
use Rattle.links_sqrt3.proofs.swaps.swap_edges.Given as goal

abbrev pub invariant-loop-e : goal.invariant-loop-e
invariant-loop-e l = record {
  same_slices : SameSlices l.initial.m l.m;
  so_far : links_in l.m ≡ each l.e swap_inner (links_in l.initial.m);
}
