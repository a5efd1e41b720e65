use Rattle.std.proofs.Common.{rules}
use Rattle.check_rounds.specs.OnParts.{LowOffLoop, faces_of}
use Rattle.check_rounds.proofs.RuleLaws.{rule-4}
use Rattle.check_rules.proofs.Searches.{found-all}
use Rattle.check_rounds.proofs.low.rule_4.Goals as goal
use Rattle.check_rounds.proofs.low.rule_4.Goals.{then-is_none, else-is_none}

pub low_off_loop-b-requires : goal.low_off_loop-b-requires
low_off_loop-b-requires c = rw c.of-faces.ensures (record { bear = found-all c.all_bear-a.ensures (search rules) })

pub returns : goal.returns
returns c = let m = c.args.m.now in
    let l : LowOffLoop (faces_of m) c.if-is_none.b = elim c.if-is_none.branch [
      | then-is_none w ↦ rw w.b-is (rw c.of-faces.ensures at w.low_off_loop-b.ensures)
      | else-is_none w ↦ rw w.b-is (rw c.of-faces.ensures at w.lowest_off_loop-b.ensures)
    ] in
    rule-4 m.mesh.sides.few m.faced c.all_bear-a.ensures l c.lower.ensures
