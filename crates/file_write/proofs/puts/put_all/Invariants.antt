use Rattle.file_write.proofs.PutLaws.{Row}
use Rattle.file_write.proofs.puts.put_all.Given as goal

abbrev pub invariant-loop-x : goal.invariant-loop-x
invariant-loop-x g l = Row g.T.Item.bytes l.items l.at l.fn.file l.x-index l.next l.file
