use borrow.Author.Rules.{rules}
use borrow.Author.Tests.{tests}
use native.Mathlib.Omega.{arith}
use Prim.Native.Nat.{◌*◌}
use mathlib.Core.Path.{◌∙◌}
use Rattle.std.proofs.lemmas.Iterator.{YieldsList-from_range, serves_from_Range}
use Rattle.std.proofs.lemmas.Iterator.Consumers.{YieldsList-from_filter, count_from_yields_List}
use Rattle.count_fields.specs.Count.{lowest_rim}
use Rattle.count_fields.proofs.CountLaws.{walks, range_number}
use Rattle.count_fields.proofs.loops.rim_loops.Goals as goal

pub count-requires-clause-can : goal.count-requires-clause-can
count-requires-clause-can c = (tt, tt, serves_from_Range (λ x q k. search rules) (λ x a b. let w = walks c.requires x (rw c.filter.ensures.source at b) in search (rules, w)))

pub returns-clause-value : goal.returns-clause-value
returns-clause-value c = count_from_yields_List c.filter.result _ c.count.ensures.ran
    (YieldsList-from_filter _ (lowest_rim c.args.edges.now c.args.n) (YieldsList-from_range 0 (2 * c.args.n) (2 * c.args.n) c.filter.ensures.source (omega arith)) c.filter.ensures.closure (λ x r q k. search (rules, tests)))
    ∙ range_number (lowest_rim c.args.edges.now c.args.n) (2 * c.args.n)
