use borrow.Author.Rules.{rules}
use borrow.Author.Tests.{tests}
use lib.Dec.{ltb}
use mathlib.Core.Path.{◌∙◌}
use Rattle.std.proofs.lemmas.Iterator.Consumers.{YieldsList-from_first}
use Rattle.std.proofs.lemmas.Iterator.Search.{any_from_yields_List}
use Rattle.count_fields.proofs.CountLaws.{below_any}
use Rattle.count_fields.proofs.loops.meets_lower.Goals as goal

pub returns : goal.returns
returns c = any_from_yields_List (λ x. ltb x c.args.h) c.any.new.self _ _ c.any.ensures.ran (YieldsList-from_first (λ x. x) _ _ c.new.ensures.items) (λ x b q k. search (rules, tests)) ∙ below_any _ _
