use Rattle.text.proofs.PieceLaws.{at-front, front-length}
use Rattle.count_line.proofs.LineLaws.{line-is}
use Rattle.count_line.proofs.line.put_line.Goals as goal

pub returns-clause-out_after : goal.returns-clause-out_after
returns-clause-out_after c = at-front _ c.put_pieces.ensures.out_after (line-is c.args.t)

pub returns-clause-value : goal.returns-clause-value
returns-clause-value c = front-length c.put_pieces.ensures.value (line-is c.args.t)
