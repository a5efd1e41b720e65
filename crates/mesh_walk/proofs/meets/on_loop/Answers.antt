use borrow.Author.Rules.{rules}
use borrow.Author.Tests.{tests}
use Rattle.mesh_walk.proofs.Rounds.{any_has}
use Rattle.mesh_walk.proofs.meets.on_loop.Goals as goal

pub returns : goal.returns
returns c = any_has c.any.new.self _ c.new.ensures.items _ _ c.any.ensures.ran (λ x b q k. search (rules, tests))
