use Rattle.links_loop.proofs.CornerLaws.{gap-ok₃}
use Rattle.links_loop.proofs.corners.third_corner.Goals as goal

pub cut_off-requires : goal.cut_off-requires
cut_off-requires c = gap-ok₃ c.requires.six_ok c.args.g
