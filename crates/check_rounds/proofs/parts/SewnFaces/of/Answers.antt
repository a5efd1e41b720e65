use Rattle.check_rounds.proofs.PartLaws.{faces-is}
use Rattle.check_rounds.proofs.parts.SewnFaces.of.Goals as goal

pub returns : goal.returns
returns c = faces-is c.args.m.now _ c.of.ensures _ _
