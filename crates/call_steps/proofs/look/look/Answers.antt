use Rattle.std.proofs.lemmas.Result.{err_from_is_err_and}
use native.Mathlib.Omega.{arith}
use lib.ListN.{length}
use Rattle.mesh.specs.Given.{lists}
use mathlib.Core.Path.{◌∙◌}
use Rattle.call_steps.proofs.LookLaws.{looked-many, looked-checked, looked-zero, looked-on, few-marks}
use Rattle.call_steps.proofs.look.look.Goals as goal

pub returns-then-passes-gt12 : goal.returns-then-passes-gt12
returns-then-passes-gt12 c = let s = c.args in looked-many s.passes s.g.counts (lists s.g.slices) (length s.g.points.now) c.if-passes-gt12.true

pub returns-then-passes-eq0 : goal.returns-then-passes-eq0
returns-then-passes-eq0 c = let s = c.args in looked-zero s.passes s.g.counts (lists s.g.slices) (length s.g.points.now) c.check.ensures c.in_ok-check.was c.if-passes-eq0.true

pub deleted-requires : goal.deleted-requires
deleted-requires c = let s = c.args in few-marks s.passes s.g.counts (lists s.g.slices) (length s.g.points.now) c.check.ensures c.in_ok-check.was

pub returns-in_err-check : goal.returns-in_err-check
returns-in_err-check c =
    let s = c.args in
    let p = err_from_is_err_and c.from_residual.result c.from_residual.ensures.1 in
    rw (p.1, p.2) (looked-checked s.passes s.g.counts (lists s.g.slices) (length s.g.points.now) (λ l. omega arith) c.check.ensures c.in_err-check.was)

pub returns : goal.returns
returns c = let s = c.args in c.deleted.ensures ∙ looked-on s.passes s.g.counts (lists s.g.slices) (length s.g.points.now) (λ l. omega arith) c.check.ensures c.in_ok-check.was c.if-passes-eq0.false
