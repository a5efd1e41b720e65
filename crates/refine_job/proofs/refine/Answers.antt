use Rattle.std.proofs.Common.{ap, ◌∙◌}
use Rattle.std.proofs.lemmas.Result.{err_from_is_err_and}
use Rattle.scope.specs.Call.{call}
use Rattle.scope.specs.Slices.{Given}
use Rattle.call_room.specs.Kinds.{scheme_of}
use Rattle.call_steps.specs.Lent.{lent}
use Rattle.file_read.specs.Held.{held}
use Rattle.refine_job.specs.Job.{made}
use Rattle.refine_job.proofs.JobLaws.{left-read, left-refused}
use Rattle.refine_job.proofs.refine.Goals as goal

pub returns-in_err-counts-clause-after : goal.returns-in_err-counts-clause-after
returns-in_err-counts-clause-after c =
    let s = c.args in
    let e = c.read.ensures in
    let p = err_from_is_err_and c.from_residual.result c.from_residual.ensures.1 in
    rw (p.1, p.2) (left-refused (scheme_of s.kind) s.passes s.flag s.n s.file.now (held s.cage.now) (lent s.room.now) e.value c.in_err-counts.was e.after)

pub returns-clause-after : goal.returns-clause-after
returns-clause-after c =
    let s = c.args in
    let e = c.read.ensures in
    let m = c.make.ensures.after ∙ ap (λ (g : Given). made (call (scheme_of s.kind) s.passes s.flag g (lent s.room.now)) s.file.now) c.mesh.ensures in
    left-read (scheme_of s.kind) s.passes s.flag s.n s.file.now (held s.cage.now) (lent s.room.now) e.value c.in_ok-counts.was e.after m
