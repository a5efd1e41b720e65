use mathlib.Core.Path.{refl}
use native.Mathlib.Omega.{arith}
use Rattle.scope.specs.Edits.{split_edge}
use Rattle.links_edits.proofs.StoreLaws.{links-is}
use Rattle.links_edits.proofs.lent.Lent.split_edge.Goals as goal

pub returns-clause-links_after : goal.returns-clause-links_after
unfolding split_edge
returns-clause-links_after c = links-is _ _ (omega arith) (omega arith) (omega arith) c.split_edge.ensures.outs_after c.split_edge.ensures.edges_after refl
