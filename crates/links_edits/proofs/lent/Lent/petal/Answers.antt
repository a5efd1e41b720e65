use mathlib.Core.Path.{refl}
use Rattle.scope.specs.Edits.{petal}
use Rattle.links_edits.proofs.StoreLaws.{held-is}
use Rattle.links_edits.proofs.lent.Lent.petal.Goals as goal

pub returns-clause-links_after : goal.returns-clause-links_after
unfolding petal
returns-clause-links_after c = held-is refl c.petal.ensures.edges_after c.petal.ensures.faces_after
