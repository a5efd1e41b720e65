use mathlib.Core.Path.{refl}
use Rattle.scope.specs.Tally.{catmull_tally}
use Rattle.call_room.proofs.forecast.catmull.Goals as goal

pub returns : goal.returns
unfolding catmull_tally
returns c = refl
