use Rattle.links_loop.proofs.CornerLaws.{gap-ok₁}
use Rattle.links_loop.proofs.corners.first_corner.Goals as goal

pub divide-requires : goal.divide-requires
divide-requires c = gap-ok₁ c.requires c.args.f
