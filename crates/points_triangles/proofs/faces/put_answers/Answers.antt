use mathlib.Core.Path.{◌≡◌, refl, ◌∙◌}
use native.Mathlib.Omega.{arith}
use Rattle.points_catmull.proofs.PlaceLaws.{length-laid}
use Rattle.points_triangles.proofs.FaceLaws.{none-laid, laid-few, next-laid}
use Rattle.points_triangles.proofs.faces.put_answers.Goals as goal

pub loop-f-init : goal.loop-f-init
loop-f-init c = none-laid _ _ _ _ _ refl

pub put_answer-at-requires : goal.put_answer-at-requires
put_answer-at-requires c =
    let h = c.args.faces.now.cage.halves in
    let b = laid-few _ _ _ c.loop-f.invariant in
    let len = length-laid _ _ _ c.loop-f.invariant.content in
    record { at_bound = omega (arith, b, h.few_v, h.few_f); at_in_bounds = omega (arith, b, c.requires) }

pub loop-f-preserved : goal.loop-f-preserved
loop-f-preserved c = let b = laid-few _ _ _ c.loop-f.invariant in
    next-laid _ _ _ c.loop-f.invariant c.face_answer-a.ensures c.put_answer-at.ensures.value c.put_answer-at.ensures.work_after (omega (arith, b, c.requires))

pub returns : goal.returns
returns c = let e : c.loop-f.f ≡ c.args.faces.now.cage.c.f = omega arith in c.loop-f.invariant.content ∙ rw e
