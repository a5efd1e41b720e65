use Rattle.std.proofs.Common.{rules}
use Rattle.check_rules.proofs.Searches.{low-tells}
use Rattle.check_rounds.proofs.LeastLaws.{loops-led}
use Rattle.check_rounds.proofs.RuleLaws.{face-below}
use Rattle.check_rounds.proofs.low.lowest_off_loop.Goals as goal

pub returns : goal.returns
returns c = let m = c.args.m.now in
    loops-led m.halves.sewn m.faces.now (low-tells c.lowest.ensures (λ k b s. search rules) (λ k p s. search rules) (λ k i not. face-below m.faced k (λ x h l n. absurd (x h n)) not))
