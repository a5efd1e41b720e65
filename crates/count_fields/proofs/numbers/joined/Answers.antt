use borrow.Author.Rules.{rules}
use borrow.Author.Tests.{tests}
use lib.Dec.{eqb}
use mathlib.Core.Bool.{not}
use mathlib.Core.Path.{◌∙◌}
use Rattle.std.proofs.lemmas.Iterator.{YieldsList-from_slice}
use Rattle.std.proofs.lemmas.Iterator.Consumers.{YieldsList-from_filter, count_from_yields_List}
use Rattle.scope.specs.Links.{NONE}
use Rattle.count_fields.proofs.CountLaws.{number_is}
use Rattle.count_fields.proofs.numbers.joined.Goals as goal

pub returns-clause-value : goal.returns-clause-value
returns-clause-value c = count_from_yields_List c.filter.result _ c.count.ensures.ran
    (YieldsList-from_filter _ (λ x. not (eqb x NONE)) (YieldsList-from_slice c.args.outs.now (cc)) c.filter.ensures.closure (λ x r q k. search (rules, tests)))
    ∙ number_is (λ x. not (eqb x NONE)) c.args.outs.now
