use borrow.Author.Rules.{rules}
use Prim.Native.Nat.{◌*◌}
use Rattle.mesh_walk.proofs.Rounds.{round-fits}
use Rattle.mesh_walk.proofs.round.Round.new.Goals as goal

pub returns-clause-fits : goal.returns-clause-fits
returns-clause-fits g c = round-fits c.args.h (g.S.Step.at c.args.edges.now) (2 * c.args.n) c.args.h (search rules)
