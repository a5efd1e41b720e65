use Rattle.mesh.proofs.PartnerLaws.{partner-lt}
use Rattle.points_triangles.proofs.inner.tail_point.Goals as goal

pub head_point-requires : goal.head_point-requires
head_point-requires c = rw c.partner.ensures (partner-lt _ c.args.cage.now.c.e c.requires)
