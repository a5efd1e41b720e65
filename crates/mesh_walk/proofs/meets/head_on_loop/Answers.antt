use borrow.Author.Rules.{rules}
use borrow.Author.Tests.{tests}
use Rattle.mesh.specs.Words.{head_at}
use Rattle.mesh_walk.proofs.Rounds.{any_has_of, may_ask}
use Rattle.mesh_walk.proofs.meets.head_on_loop.Goals as goal

pub any-requires-clause-callable : goal.any-requires-clause-callable
any-requires-clause-callable c = may_ask c.new.ensures.items c.requires (λ x q k. search rules) (λ x a b. search (rules, a))

pub returns : goal.returns
returns c = any_has_of c.any.new.self _ c.new.ensures.items (head_at c.args.edges.now) _ _ c.any.ensures.ran (λ x b q k. search (rules, tests))
