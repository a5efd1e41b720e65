use Rattle.links_edits.specs.Lent.{links_in}
use Rattle.links_sqrt3.proofs.StepLaws.{side-there}
use Rattle.links_sqrt3.proofs.faces.side_of.Goals as goal

pub returns-then-flag : goal.returns-then-flag
returns-then-flag c = rw (c.if-flag.true, c.rim_side.ensures, c.start.ensures) (side-there c.args.f (links_in c.args.m.now))
