use Rattle.file_read.proofs.FillLaws.{Laid}
use Rattle.file_read.proofs.load.load.Given as goal

abbrev pub invariant-loop-i : goal.invariant-loop-i
invariant-loop-i g l = let t = g.T.Cell in Laid t.ZERO t.ZERO (t.values l.file l.from l.n) l.fn.into l.i l.into
