use native.Mathlib.Omega.{arith}
use mathlib.Core.Path.{refl, ◌∙◌}
use Rattle.links_edits.proofs.StoreLaws.{held-is}
use Rattle.links_sqrt3.proofs.StepLaws.{centre-kept, centre-done}
use Rattle.links_sqrt3.proofs.faces.centre_face.Goals as goal

pub overflow_mul-m : goal.overflow_mul-m
overflow_mul-m c = let (v, e, f, o) = centre-kept c.requires.centre_ok c.start-z.ensures c.next-x.ensures c.next-y.ensures c.fan_three.ensures.links_after in
    let k = c.requires.centre_ok.three.few_e in
    omega arith

pub overflow_add-m : goal.overflow_add-m
overflow_add-m c = let (v, e, f, o) = centre-kept c.requires.centre_ok c.start-z.ensures c.next-x.ensures c.next-y.ensures c.fan_three.ensures.links_after in
    let k = c.requires.centre_ok.three.few_e in
    omega arith

pub set_out-requires : goal.set_out-requires
set_out-requires c = let (v, e, f, o) = centre-kept c.requires.centre_ok c.start-z.ensures c.next-x.ensures c.next-y.ensures c.fan_three.ensures.links_after in
    let k = c.requires.centre_ok.vertex in
    let l = c.fan_three.ensures.same_slices.outs_long in
    omega arith

pub overflow_add-m-2 : goal.overflow_add-m-2
overflow_add-m-2 c = let (v, e, f, o) = centre-kept c.requires.centre_ok c.start-z.ensures c.next-x.ensures c.next-y.ensures c.fan_three.ensures.links_after in
    let k = c.requires.few in
    omega arith

pub overflow_add-m-3 : goal.overflow_add-m-3
overflow_add-m-3 c = let (v, e, f, o) = centre-kept c.requires.centre_ok c.start-z.ensures c.next-x.ensures c.next-y.ensures c.fan_three.ensures.links_after in
    let k = c.requires.centre_ok.three.few_e in
    omega arith

pub overflow_add-m-4 : goal.overflow_add-m-4
overflow_add-m-4 c = let (v, e, f, o) = centre-kept c.requires.centre_ok c.start-z.ensures c.next-x.ensures c.next-y.ensures c.fan_three.ensures.links_after in
    let k = c.requires.centre_ok.three.few_f in
    omega arith

pub returns-clause-links_after : goal.returns-clause-links_after
returns-clause-links_after c =
    held-is c.set_out.ensures refl refl
    ∙ centre-done c.requires.centre_ok c.start-z.ensures c.next-x.ensures c.next-y.ensures c.fan_three.ensures.links_after
