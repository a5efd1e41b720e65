use Rattle.check_rounds.proofs.RuleLaws.{rule-8}
use Rattle.check_rounds.proofs.TourLaws.{turned-8}
use Rattle.check_rounds.proofs.low.rule_8.Goals as goal

pub returns-then-w : goal.returns-then-w
returns-then-w c = turned-8 c.args.m.now.rooted (c.requires c.if-w.true)

pub returns : goal.returns
returns c = rule-8 c.args.m.now.rooted c.all_leave.ensures (rw c.of-vertices.ensures at c.lowest_off_turn.ensures) c.lower.ensures
