use Rattle.mesh.proofs.PartnerLaws.{xor-one}
use Rattle.mesh.proofs.half.partner.Goals as goal

pub returns : goal.returns
returns c = xor-one c.args.h
