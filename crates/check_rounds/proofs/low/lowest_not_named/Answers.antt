use Rattle.std.proofs.Common.{rules}
use Rattle.check_rules.proofs.Searches.{low-tells}
use Rattle.check_rounds.proofs.RuleLaws.{tail_below}
use Rattle.check_rounds.proofs.low.lowest_not_named.Goals as goal

pub returns : goal.returns
returns c = low-tells c.lowest.ensures (λ k b s. search rules) (λ k p s. search rules) (λ k i not. tail_below c.args.m.now.rooted k (λ x h. absurd (x h)) not)
