use Prim.Native.Nat.{◌+◌, ◌-◌, ◌*◌, ◌≤◌}
use mathlib.Core.Path.{◌≡◌}
use lib.ListN.{length}
use Rattle.scope.specs.Lists.{each}
use Rattle.scope.specs.Passes.{sqrt_face}
use Rattle.links_edits.specs.Lent.{links_in, SameSlices}
use Rattle.links_sqrt3.specs.Answers.{moved}
use Rattle.links_sqrt3.proofs.faces.open_faces.Given as goal

abbrev pub invariant-loop-f : goal.invariant-loop-f
invariant-loop-f l = record {
  few : l.m.v ≤ 1048576;
  least : l.initial.m.v ≤ l.m.v;
  most : l.m.v ≤ l.initial.m.v + 2 * l.f;
  same_slices : SameSlices l.initial.m l.m;
  so_far : links_in l.m ≡ each l.f (sqrt_face l.flag) (links_in l.initial.m);
  long : length l.points ≡ length l.initial.points;
  points : l.points ≡ moved l.work l.initial.m.v (l.m.v - l.initial.m.v) l.initial.points;
}
