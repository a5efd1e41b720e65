use Rattle.text.proofs.PieceLaws.{Pieced}
use Rattle.text.proofs.put_pieces.Given as goal

abbrev pub invariant-loop-piece : goal.invariant-loop-piece
invariant-loop-piece l = Pieced l.pieces l.at l.initial.out l.piece-index l.end l.out
