use borrow.Author.Rules.{rules}
use Prim.Native.Nat.{◌+◌}
use mathlib.Core.Path.{◌≡◌}
use lib.ListN.{length}
use Rattle.std.proofs.lemmas.Result.{err_from_is_err_and}
use Rattle.call_steps.proofs.RunLaws.{stays-on, mapped-ok, mapped-err, run-start, run-ready, run-next, run-stops, run-done}
use Rattle.call_steps.proofs.passes.run.Goals as goal

pub loop-n-init : goal.loop-n-init
loop-n-init c = record { same_slices = search rules; stays = search rules; runs = run-start c.requires }

pub pass-requires : goal.pass-requires
pass-requires c = run-ready c.loop-n.invariant.runs c.loop-n-test.true

pub returns-in_err-d-clause-went_on : goal.returns-in_err-d-clause-went_on
returns-in_err-d-clause-went_on c =
    let p = err_from_is_err_and c.from_residual.result c.from_residual.ensures.1 in
    let m = mapped-err _ c.pass.result c.map_err.result c.map_err.ensures.cases c.in_err-d.was in
    let k = m.2 in
    rw (p.1, p.2) ((c.loop-n.n-counter + 1, m.0), run-stops c.loop-n.invariant.runs c.loop-n-test.true (rw m.1 at c.pass.ensures.went), search rules)

pub loop-n-preserved : goal.loop-n-preserved
loop-n-preserved c =
    let w : length c.pass.new.room.work.now ≡ length c.loop-n.room.work.now = c.pass.ensures.stays.work_long in
    record { same_slices = search rules; stays = stays-on c.loop-n.invariant.stays c.pass.ensures.stays; runs = run-next c.loop-n.invariant.runs c.loop-n-test.true (rw (mapped-ok _ c.pass.result c.map_err.result c.map_err.ensures.cases c.in_ok-d.was) at c.pass.ensures.went) c.turn-next.ensures w }

pub returns-clause-went_on : goal.returns-clause-went_on
returns-clause-went_on c = run-done c.loop-n.invariant.runs c.loop-n-test.false
