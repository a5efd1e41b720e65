use Prim.Native.Nat.{ℕ}
use mathlib.Core.Path.{refl, ap, ◌∙◌}
use native.Mathlib.Omega.{arith}
use Rattle.scope.specs.declared.records.Counts.{Counts}
use Rattle.links_triangulate.proofs.TrimLaws.{few-c, then-has, trim_start, trim-counts, trim-small, trim-done, corner-ok, corner-has, corner-on}
use Rattle.links_triangulate.proofs.triangulate_face.Goals as goal

pub next-requires : goal.next-requires
next-requires c = then-has c.requires c.start-a.ensures c.next-x.ensures

pub loop-q-init : goal.loop-q-init
loop-q-init c = let r = c.requires in
    let w = few-c r in
    record { few_e = w.0; few_f = w.1; same_v = refl; trimming = trim_start r c.start-a.ensures c.next-x.ensures c.prev.ensures c.next.ensures }

pub cut_corner-requires : goal.cut_corner-requires
cut_corner-requires c = corner-ok c.requires c.loop-q.invariant.trimming c.loop-q-test.true

pub next-requires-in-loop-q : goal.next-requires-in-loop-q
next-requires-in-loop-q c = corner-has c.requires c.loop-q.invariant.trimming c.loop-q-test.true c.cut_corner.ensures.edges_after

pub loop-q-smaller : goal.loop-q-smaller
loop-q-smaller c = let w = trim-counts c.requires c.loop-q.invariant.trimming in omega arith

pub loop-q-preserved : goal.loop-q-preserved
loop-q-preserved c = let r = c.requires in
    let i = c.loop-q.invariant in
    let d = c.cut_corner.ensures in
    let s = corner-on r i.trimming c.loop-q-test.true d.edges_after d.faces_after c.next-in-loop-q.ensures in
    let w = trim-small r s in
    record { few_e = w.0; few_f = w.1; same_v = i.same_v; trimming = s }

pub returns : goal.returns
returns c =
    let i = c.loop-q.invariant in
    let d = c.loop-q.d in
    let (a, b, e) = trim-done c.requires i.trimming c.loop-q-test.false in
    record {
      edges_after = a;
      faces_after = b;
      value = ap (λ (v : ℕ). (let t : Counts = record { v = v; e = d.e; f = d.f } in t)) i.same_v ∙ e;
    }
