use Rattle.std.proofs.Common.{ap, ◌∙◌}
use Rattle.std.proofs.lemmas.Result.{err_from_is_err_and}
use Rattle.scope.specs.Slices.{Given}
use Rattle.refine_job.specs.Job.{saved}
use Rattle.refine_job.proofs.JobLaws.{made_done, made_refused}
use Rattle.refine_job.proofs.make.Goals as goal

pub returns-in_err-counts-clause-after : goal.returns-in_err-counts-clause-after
returns-in_err-counts-clause-after c =
    let p = err_from_is_err_and c.from_residual.result c.from_residual.ensures.1 in
    rw (p.1, p.2) (made_refused c.args.file.now c.subdivide.ensures.outcome c.in_err-counts.was)

pub returns-clause-after : goal.returns-clause-after
returns-clause-after c =
    let n = c.in_ok-counts.next in
    let s = c.save.ensures.file_after ∙ ap (λ (g : Given). saved g.counts n g.slices g.points c.args.file.now) c.result.ensures in
    made_done c.args.file.now c.subdivide.ensures.outcome c.in_ok-counts.was s
