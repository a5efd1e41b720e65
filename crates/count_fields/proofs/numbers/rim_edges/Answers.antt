use borrow.Author.Rules.{rules}
use borrow.Author.Tests.{tests}
use native.Mathlib.Omega.{arith}
use mathlib.Core.Path.{◌∙◌}
use Rattle.std.proofs.lemmas.Iterator.{YieldsList-from_range}
use Rattle.std.proofs.lemmas.Iterator.Consumers.{YieldsList-from_filter, count_from_yields_List}
use Rattle.mesh.specs.Rounds.{rim_edge_at}
use Rattle.count_fields.proofs.CountLaws.{range_number}
use Rattle.count_fields.proofs.numbers.rim_edges.Goals as goal

pub returns : goal.returns
returns c = count_from_yields_List c.filter.result _ c.count.ensures.ran
    (YieldsList-from_filter _ (rim_edge_at c.args.edges.now) (YieldsList-from_range 0 c.args.n c.args.n c.filter.ensures.source (omega arith)) c.filter.ensures.closure (λ x r q k. search (rules, tests)))
    ∙ range_number (rim_edge_at c.args.edges.now) c.args.n
