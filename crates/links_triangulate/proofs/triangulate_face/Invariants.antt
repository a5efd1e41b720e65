use Prim.Native.Nat.{◌+◌, ◌-◌, ◌≤◌}
use mathlib.Core.Path.{◌≡◌}
use Rattle.links_edits.specs.Held.{given}
use Rattle.links_triangulate.specs.Trim.{sides}
use Rattle.links_triangulate.proofs.TrimLaws.{Trimming}
use Rattle.links_triangulate.proofs.triangulate_face.Given as goal

abbrev pub invariant-loop-q : goal.invariant-loop-q
invariant-loop-q l = record {
  few_e : l.d.e ≤ 1048576;
  few_f : l.d.f ≤ 1048576;
  same_v : l.d.v ≡ l.initial.d.v;
  trimming : Trimming l.f (given l.initial.d l.outs l.initial.edges l.initial.faces) l.initial.edges l.initial.faces l.q.p l.q.a l.q.x l.q.n l.d.e l.d.f l.edges l.faces;
}

abbrev pub decreases-loop-q : goal.decreases-loop-q
decreases-loop-q l = l.initial.d.e + sides l.f (given l.initial.d l.outs l.initial.edges l.initial.faces) - l.d.e
