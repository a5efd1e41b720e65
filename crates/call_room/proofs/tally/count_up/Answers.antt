use Rattle.mesh.specs.Rounds.{rim_at}
use mathlib.Core.Bool.{not}
use Prim.Native.Nat.{◌*◌}
use Rattle.call_room.proofs.TallyLaws.{number-below}
use Rattle.call_room.specs.Amounts.{amounts_at}
use Rattle.call_room.proofs.tally.count_up.Goals as goal

pub overflow_sub-result : goal.overflow_sub-result
overflow_sub-result c = number-below (2 * c.args.c.e) (λ h. not (rim_at c.args.edges.now h)) c.corners-s.ensures

pub returns : goal.returns
unfolding amounts_at
returns c = rw c.corners-s.ensures
