use native.Mathlib.Omega.{arith}
use Rattle.call_steps.proofs.PassLaws.{links-ready, after-few, after-work, after-points, goes}
use Rattle.call_steps.proofs.passes.catmull_pass.Goals as goal

pub catmull_links-d-requires : goal.catmull_links-d-requires
catmull_links-d-requires c = links-ready c.requires

pub overflow_mul-d : goal.overflow_mul-d
overflow_mul-d c = let f = after-few c.requires c.catmull_links-d.ensures.value in omega arith

pub copy-requires : goal.copy-requires
copy-requires c = let r = c.requires in
    let e = c.catmull_links-d.ensures.value in
    let a = after-work r e in
    let k = c.new_points.auto.work in record { n_in_bounds = omega arith; n_in_bounds_2 = after-points r e }

pub returns : goal.returns
returns c = let l = c.catmull_links-d.ensures in
    goes c.requires l.value l.outs_after l.edges_after l.faces_after c.new_points.ensures c.copy.ensures
