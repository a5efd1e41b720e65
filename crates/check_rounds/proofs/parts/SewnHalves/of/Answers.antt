use Rattle.check_rounds.proofs.PartLaws.{halves-is}
use Rattle.check_rounds.proofs.parts.SewnHalves.of.Goals as goal

pub returns : goal.returns
returns c = halves-is c.args.m.now _ _
