use Rattle.std.proofs.Common.{rules, tests}
use Rattle.std.proofs.lemmas.Iterator.Adapters.{serves_from_places}
use Rattle.std.proofs.lemmas.Iterator.Consumers.{YieldsList-from_first}
use Rattle.std.proofs.lemmas.Iterator.Search.{all_from_yields_List}
use Rattle.mesh.proofs.RoundLaws.{walk-has}
use Rattle.mesh_walk.proofs.Rounds.{round-has}
use Rattle.check_rounds.specs.Tour.{apart_at}
use Rattle.check_rounds.proofs.around.alone.Goals as goal

pub head-v-requires : goal.head-v-requires
head-v-requires c = walk-has c.requires

pub all-requires-clause-callable : goal.all-requires-clause-callable
all-requires-clause-callable c = serves_from_places (YieldsList-from_first (λ x. x) _ _ c.new.ensures.items) (λ x q k. search rules) (λ x k l e. let h = round-has x k c.requires l e in search (rules, h.0))

pub returns : goal.returns
returns c = all_from_yields_List (apart_at c.args.edges.now c.args.a) c.all.new.self _ _ c.all.ensures.ran (YieldsList-from_first (λ x. x) _ _ c.new.ensures.items) (λ x b q k. search (rules, tests))
