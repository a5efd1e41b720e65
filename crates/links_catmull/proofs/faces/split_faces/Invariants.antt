use Prim.Native.Nat.{◌+◌}
use mathlib.Core.Path.{◌≡◌}
use Rattle.scope.specs.Lists.{each}
use Rattle.scope.specs.Passes.{catmull_face}
use Rattle.links_edits.specs.Lent.{links_in, SameSlices}
use Rattle.links_catmull.proofs.faces.split_faces.Given as goal

abbrev pub invariant-loop-f : goal.invariant-loop-f
invariant-loop-f l = record {
  vertices : l.m.v ≡ l.initial.m.v + l.f;
  same_slices : SameSlices l.initial.m l.m;
  so_far : links_in l.m ≡ each l.f (catmull_face l.old) (links_in l.initial.m);
}
