use Rattle.mesh.proofs.PartnerLaws.{partner-lt}
use Rattle.check_rules.proofs.states.Mesh.tail.Goals as goal

pub head-requires : goal.head-requires
head-requires c = rw c.partner.ensures (partner-lt c.args.h c.args.self.now.ne c.requires)
