use Rattle.call_steps.specs.Lent.{lent}
use Rattle.call_steps.proofs.StoreLaws.{all-wiped}
use Rattle.call_steps.proofs.store.wipe.Goals as goal

pub returns-clause-after : goal.returns-clause-after
returns-clause-after c = let m = c.clear_marks.ensures in all-wiped (lent c.args.room.now) c.clear-5.ensures c.clear.ensures c.clear-2.ensures c.clear-3.ensures m.vmarks_after m.emarks_after m.fmarks_after c.clear-4.ensures
