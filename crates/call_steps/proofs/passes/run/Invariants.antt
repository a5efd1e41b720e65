use Prim.Native.Nat.{◌*◌}
use lib.ListN.{take}
use Rattle.links_edits.specs.Held.{given}
use Rattle.call_steps.specs.Lent.{lent, SameSlices}
use Rattle.call_steps.specs.Passing.{Stays}
use Rattle.call_steps.proofs.RunLaws.{Running}
use Rattle.call_steps.proofs.passes.run.Given as goal

abbrev pub invariant-loop-n : goal.invariant-loop-n
invariant-loop-n l = record {
  same_slices : SameSlices l.initial.room l.room;
  stays : Stays (lent l.initial.room) (lent l.room);
  runs : (let b = lent l.initial.room in let a = lent l.room in
      Running l.kind l.passes l.flag (given l.initial.d b.result.outs b.result.edges b.result.faces) (take (3 * l.initial.d.v) b.points)
      b.result.outs b.result.edges b.result.faces b.points b.work l.n-counter l.next l.d a.result.outs a.result.edges a.result.faces a.points a.work);
}
