use Rattle.std.proofs.Common.{rules, true, false}
use Rattle.std.proofs.lemmas.Iterator.{first_from_Range}
use Rattle.check_rules.proofs.Searches.{found-by-range}
use Rattle.check_rules.proofs.scan.first_wrong.Goals as goal

pub returns : goal.returns
returns g c = found-by-range (first_from_Range _ _ _ _ (λ k. goal.F-post g c.args.ok c.args.m k false) (λ k. goal.F-post g c.args.ok c.args.m k true) c.find.ensures.ran (λ x q k. search rules) (λ x q k. search rules))
