use Rattle.std.proofs.Common.{arith, sym, ◌∙◌}
use lib.ListN.{get_or-eq_default}
use Rattle.file_read.proofs.FillLaws.{laid_none, laid_on, laid-all}
use Rattle.file_read.proofs.load.load.Goals.{then-i-n, else-i-n}
use Rattle.file_read.proofs.load.load.Goals as goal

pub loop-i-init : goal.loop-i-init
loop-i-init g c = laid_none

pub loop-i-preserved : goal.loop-i-preserved
loop-i-preserved g c =
    let s = c.loop-i.auto.into in
    let t = c.loop-i-test.true in
    let e = g.T.Cell.laws.size c.args.file.now c.args.from c.args.n in
    laid_on c.loop-i.invariant (omega arith) (elim c.if-i-n.branch [
      | then-i-n w ↦ w.x-is ∙ w.read.ensures
      | else-i-n w ↦ w.x-is ∙ w.ZERO.ensures ∙ sym (get_or-eq_default (g.T.Cell.values c.args.file.now c.args.from c.args.n) g.T.Cell.ZERO (let b = w.if-i-n.false in omega arith))
    ])

pub returns : goal.returns
returns g c = laid-all c.loop-i.invariant (let s = c.loop-i.auto.into in let t = c.loop-i-test.false in omega arith)
