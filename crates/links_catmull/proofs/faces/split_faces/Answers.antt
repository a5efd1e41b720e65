use native.Mathlib.Omega.{arith}
use mathlib.Core.Path.{ap, ◌∙◌}
use Rattle.std.proofs.Common.{rules}
use Rattle.scope.specs.Lists.{each}
use Rattle.scope.specs.Links.{Links}
use Rattle.links_edits.proofs.FoldLaws.{each-more}
use Rattle.links_catmull.proofs.StepLaws.{facing-ok, facing-vertices}
use Rattle.links_catmull.proofs.faces.split_faces.Goals as goal

pub loop-f-init : goal.loop-f-init
unfolding each
loop-f-init c = search rules

pub loop-f-preserved : goal.loop-f-preserved
loop-f-preserved c =
    let i = c.loop-f.invariant in
    let k = facing-ok _ _ _ i.so_far (c.requires.each_ok _ c.loop-f-test.true) in
    let t = c.catmull_face.ensures.links_after ∙ each-more _ _ _ i.so_far in
    record {
      vertices = let a = ap (λ (t : Links). t.nv) t ∙ facing-vertices _ _ _ i.so_far k in let b = i.vertices in omega arith;
      same_slices = search rules;
      so_far = t;
    }
