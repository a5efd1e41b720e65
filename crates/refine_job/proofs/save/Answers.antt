use Rattle.mesh.specs.Given.{lists}
use Rattle.refine_job.proofs.JobLaws.{room_written}
use Rattle.refine_job.proofs.save.Goals as goal

pub rim_edges-rim-requires : goal.rim_edges-rim-requires
rim_edges-rim-requires c =
    let m = c.args.m in
    let k = room_written m.counts (lists m.slices) m.points.now c.args.file.now c.write.ensures.value c.in_ok-size.was in
    record { n_bound = k.held.e; n_in_bounds = k.edges }
