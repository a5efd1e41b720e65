use Rattle.links_edits.proofs.PetalLaws.{petal-in-edges, petal-in-faces}
use Rattle.links_edits.proofs.petal.petal.Goals as goal

pub returns : goal.returns
returns c = record { edges_after = rw (c.between.ensures, c.spokes.ensures, c.tail-u.ensures) (petal-in-edges c.args.c c.requires); faces_after = rw c.set_start.ensures (petal-in-faces c.args.c c.requires) }
