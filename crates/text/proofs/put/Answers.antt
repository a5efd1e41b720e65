use Rattle.std.proofs.Common.{arith}
use Rattle.text.proofs.PutLaws.{put_part}
use Rattle.text.proofs.put.Goals as goal

pub returns-clause-out_after : goal.returns-clause-out_after
returns-clause-out_after c = rw c.copy_from_slice.ensures.after (put_part _ _ _ _ (omega arith) (let b = c.requires in omega arith))
