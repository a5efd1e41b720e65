use lib.ListN.{get_or}
use mathlib.Core.Path.{◌≡◌}
use mathlib.Core.Logic.{◌≢◌}
use borrow.Author.Rules.{rules}
use borrow.Author.Tests.{tests}
use Rattle.std.proofs.lemmas.Iterator.{first_from_Range}
use Rattle.slices.proofs.MarkLaws.{mark_from_cases}
use Rattle.slices.proofs.marks.first_mark.Goals as goal

pub returns : goal.returns
returns c = mark_from_cases _ _ _ c.requires (first_from_Range _ _ _ c.find.result (λ i. get_or c.args.marks.now i 0 ≢ 0) (λ i. get_or c.args.marks.now i 0 ≡ 0) c.find.ensures.ran (λ x q k. search (rules, tests)) (λ x q k. search (rules, tests)))
