use Rattle.scope.specs.Schemes.{catmull}
use Rattle.call_room.proofs.KindLaws.{alone}
use Rattle.call_room.proofs.kind.settle.Goals as goal

pub returns : goal.returns
unfolding catmull
returns c = λ m. rw (alone c.args.kind)
