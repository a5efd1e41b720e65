use Rattle.check_rules.proofs.HalfLaws.{has-partner}
use Rattle.check_rules.proofs.local.edge_ok.Goals as goal

pub face-requires-else-face : goal.face-requires-else-face
face-requires-else-face c = rw c.partner.ensures (has-partner c.args.edges.now c.args.ne c.args.h c.requires.edges_fit.room c.requires.h_bound)
