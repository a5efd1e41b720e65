use Rattle.text.proofs.PieceLaws.{no-pieces, next-room, piece-on}
use Rattle.text.proofs.put_pieces.Goals as goal

pub loop-piece-init : goal.loop-piece-init
loop-piece-init c = no-pieces _ _ _

pub put-end-requires : goal.put-end-requires
put-end-requires c = next-room _ c.loop-piece.invariant c.loop-piece-test.true c.requires

pub loop-piece-preserved : goal.loop-piece-preserved
loop-piece-preserved c = let e = c.put-end.ensures in piece-on _ c.loop-piece.invariant c.loop-piece-test.true e.out_after e.value e.upper_bound
