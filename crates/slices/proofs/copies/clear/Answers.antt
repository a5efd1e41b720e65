use Rattle.slices.proofs.CopyLaws.{clear_next, clear_done}
use Rattle.slices.proofs.copies.clear.Goals as goal

pub loop-x-preserved : goal.loop-x-preserved
loop-x-preserved g c = clear_next _ _ _ c.args.s.now _ c.loop-x.invariant c.loop-x-test.true

pub returns : goal.returns
returns g c = clear_done _ _ _ c.args.s.now _ c.requires c.loop-x.invariant c.loop-x.auto.x-items c.loop-x-test.false
