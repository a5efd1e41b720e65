use Rattle.links_split.proofs.FirstLaws.{old-here, old-next}
use Rattle.links_split.proofs.first_old.Goals as goal

pub returns-then-head-old : goal.returns-then-head-old
returns-then-head-old c = old-here _ _ _ _ c.start-s.ensures c.head.ensures c.if-head-old.true

pub returns-else-head-old : goal.returns-else-head-old
returns-else-head-old c = old-next _ _ _ _ c.start-s.ensures c.head.ensures c.if-head-old.false c.next.ensures
