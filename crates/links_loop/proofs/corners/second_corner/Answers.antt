use Rattle.links_loop.proofs.CornerLaws.{gap-ok₂}
use Rattle.links_loop.proofs.corners.second_corner.Goals as goal

pub divide-requires : goal.divide-requires
divide-requires c = gap-ok₂ c.requires.six_ok c.args.g
