use Rattle.call_steps.specs.Lent.{lent}
use Rattle.call.proofs.GoLaws.{takes-new, points-new, prepare-ready, run-there, ends_through, ends-stopped}
use Rattle.call.proofs.go.Goals as goal

pub copy_links-requires-clause-takes_2 : goal.copy_links-requires-clause-takes_2
copy_links-requires-clause-takes_2 c = takes-new c.args.kind c.requires

pub lay-requires-clause-n_in_bounds_2 : goal.lay-requires-clause-n_in_bounds_2
lay-requires-clause-n_in_bounds_2 c = points-new c.args.kind c.requires

pub prepare-d-requires : goal.prepare-d-requires
prepare-d-requires c = let l = c.copy_links.ensures in prepare-ready c.args.kind c.requires l.newouts_after l.newedges_after l.newfaces_after

pub run-requires : goal.run-requires
run-requires c = let l = c.copy_links.ensures in
    let p = c.prepare-d.ensures in run-there c.args.kind c.requires l.newouts_after l.newedges_after l.newfaces_after p.value p.outs_after p.edges_after p.faces_after c.lay.ensures

pub returns-in-Err-clause-outcome : goal.returns-in-Err-clause-outcome
returns-in-Err-clause-outcome c = let l = c.copy_links.ensures in
    let p = c.prepare-d.ensures in ends-stopped c.args.kind c.requires l.newouts_after l.newedges_after l.newfaces_after p.value p.outs_after p.edges_after p.faces_after c.lay.ensures (lent c.run.new.room) c.run.result c.run.ensures.went_on c.run.ensures.stays c.in-Err.is c.wipe.ensures.after

pub returns-in-Ok-clause-outcome : goal.returns-in-Ok-clause-outcome
returns-in-Ok-clause-outcome c = let l = c.copy_links.ensures in
    let p = c.prepare-d.ensures in
    let m = c.clear_marks.ensures in ends_through c.args.kind c.requires l.newouts_after l.newedges_after l.newfaces_after p.value p.outs_after p.edges_after p.faces_after c.lay.ensures (lent c.run.new.room) c.run.result c.run.ensures.went_on c.run.ensures.stays c.in-Ok.is m.vmarks_after m.emarks_after m.fmarks_after c.clear.ensures
