use Prim.Native.Nat.{◌+◌}
use native.Mathlib.Omega.{arith}
use mathlib.Core.Path.{refl, sym, ap, ◌∙◌}
use Rattle.std.proofs.Common.{rules}
use Rattle.scope.specs.Lists.{each}
use Rattle.scope.specs.Links.{Links}
use Rattle.links_edits.specs.Lent.{links_in}
use Rattle.links_edits.proofs.FoldLaws.{each-more}
use Rattle.links_sqrt3.proofs.AnswerLaws.{moved_same, moved_up, moved_to}
use Rattle.links_sqrt3.proofs.StepLaws.{gained-le, face-counts, facing-ok, facing-up}
use Rattle.links_sqrt3.proofs.faces.open_faces.Goals as goal

pub loop-f-init : goal.loop-f-init
unfolding each
loop-f-init c = record {
  few = c.requires.faces_ok.few_v;
  least = omega arith;
  most = omega arith;
  same_slices = search rules;
  so_far = refl;
  long = refl;
  points = moved_same _ _ _;
}

pub sqrt_face-requires : goal.sqrt_face-requires
sqrt_face-requires c =
    let i = c.loop-f.invariant in
    let k = c.requires in
    let l = c.loop-f-test.true in
    let o = facing-ok _ _ _ i.so_far (k.faces_ok.each_ok _ l) in
    record {
      face_ok = o;
      few = i.few;
      in_work = let p = k.points_ok.in_work in let q = i.most in omega arith;
      in_place = let p = k.points_ok.in_place (c.loop-f.f + 1) (omega arith) in let q = facing-up _ _ _ i.so_far o in let r = i.long in omega arith;
    }

pub loop-f-preserved : goal.loop-f-preserved
loop-f-preserved c =
    let i = c.loop-f.invariant in
    let k = c.requires in
    let l = c.loop-f-test.true in
    let o = facing-ok _ _ _ i.so_far (k.faces_ok.each_ok _ l) in
    let d = c.sqrt_face.ensures in
    let n = gained-le c.args.flag c.loop-f.f (links_in c.loop-f.m) in
    let w = ap (λ (t : Links). t.nv) d.links_after ∙ (face-counts o).0 in
    let t = d.links_after ∙ each-more _ _ _ i.so_far in
    record {
      few = let a = ap (λ (t : Links). t.nv) t in let b = (k.faces_ok.each_few (c.loop-f.f + 1) (omega arith)).0 in omega arith;
      least = let a = i.least in omega arith;
      most = let a = i.most in omega arith;
      same_slices = search rules;
      so_far = t;
      long = c.sqrt_face.auto.points ∙ i.long;
      points = moved_to _ _ _ (moved_up _ _ _ _ _ i.least i.points d.points_after refl) (sym w);
    }
