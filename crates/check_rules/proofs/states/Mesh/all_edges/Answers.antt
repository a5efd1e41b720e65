use Rattle.std.proofs.Common.{rules}
use Rattle.check_rules.proofs.Searches.{found-tells}
use Rattle.check_rules.proofs.states.Mesh.all_edges.Goals as goal

pub returns : goal.returns
returns c = found-tells c.first_wrong.ensures (λ k b s. search rules)
