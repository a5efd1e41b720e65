use Rattle.std.proofs.Common.{arith}
use Rattle.file_write.proofs.WriteLaws.{length-contents}
use Rattle.file_write.proofs.write.put_contents.Goals as goal

pub put_all-requires-clause-room : goal.put_all-requires-clause-room
put_all-requires-clause-room c = rw (c.contents.ensures, length-contents) (omega arith)

pub returns-clause-place : goal.returns-clause-place
returns-clause-place c = rw (c.contents.ensures, length-contents) at c.put_all.ensures.place
