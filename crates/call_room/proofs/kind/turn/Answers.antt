use Rattle.scope.specs.Schemes.{catmull}
use Rattle.call_room.proofs.KindLaws.{alone}
use Rattle.call_room.proofs.kind.turn.Goals as goal

pub returns : goal.returns
unfolding catmull
returns c = rw (alone c.args.kind)
