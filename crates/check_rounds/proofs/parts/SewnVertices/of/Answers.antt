use Rattle.check_rounds.proofs.PartLaws.{vertices-is}
use Rattle.check_rounds.proofs.parts.SewnVertices.of.Goals as goal

pub returns : goal.returns
returns c = vertices-is c.args.m.now _ c.of.ensures _ _
