use borrow.Author.Rules.{rules}
use borrow.Author.Tests.{tests}
use Rattle.mesh.specs.Rounds.{side_at}
use Rattle.mesh_walk.proofs.Rounds.{find_is, may_ask}
use Rattle.mesh_walk.proofs.rims.rim_side.Goals as goal

pub find-requires-clause-callable : goal.find-requires-clause-callable
find-requires-clause-callable c = may_ask c.new.ensures.items c.requires (λ x q k. search rules) (λ x a b. search (rules, b))

pub returns : goal.returns
returns c = find_is c.find.new.self _ c.new.ensures.items (side_at c.args.edges.now) _ c.find.ensures.ran (λ x b q k. search (rules, tests))
