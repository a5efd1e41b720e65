use Rattle.std.proofs.Common.{rules}
use Rattle.check_rules.proofs.Searches.{low-tells}
use Rattle.check_rounds.proofs.LeastLaws.{turns-led}
use Rattle.check_rounds.proofs.RuleLaws.{tail_below}
use Rattle.check_rounds.proofs.low.lowest_off_turn.Goals as goal

pub returns : goal.returns
returns c = let m = c.args.m.now in
    turns-led m.halves.sewn m.outs.now (low-tells c.lowest.ensures (λ k b s. search rules) (λ k p s. search rules) (λ k i not. tail_below m.rooted k (λ x h. absurd (x h)) not))
