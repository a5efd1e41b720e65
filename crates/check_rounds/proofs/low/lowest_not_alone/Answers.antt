use Rattle.std.proofs.Common.{rules, tests, ltb, ◌≡◌}
use Rattle.laws_check.proofs.Tells.{t-lt}
use Rattle.check_rounds.proofs.RuleLaws.{low-below}
use Rattle.check_rounds.proofs.low.lowest_not_alone.Goals as goal

pub returns : goal.returns
returns c = low-below c.lowest.ensures (λ k b s. search rules) (λ k p s. search rules) c.filter.ensures (λ x b s. let e : b ≡ ltb x c.args.nf = search (rules, tests) in rw e (t-lt x c.args.nf))
