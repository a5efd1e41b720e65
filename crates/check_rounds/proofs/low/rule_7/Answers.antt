use Rattle.check_rounds.proofs.RuleLaws.{rule-7}
use Rattle.check_rounds.proofs.low.rule_7.Goals as goal

pub returns : goal.returns
returns c = rule-7 c.args.m.now.mesh.sides.few c.args.m.now.faced c.all_long.ensures (rw c.of-halves.ensures at c.lowest_not_alone.ensures) c.lower.ensures
