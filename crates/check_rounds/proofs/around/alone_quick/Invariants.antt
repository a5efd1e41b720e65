use Prim.Native.Nat.{◌*◌}
use Rattle.mesh.specs.Words.{face_at, head_at, next_at}
use Rattle.check_rounds.specs.Tour.{Walk, spin_at}
use Rattle.check_rules.specs.Place.{Half}
use mathlib.Core.Logic.{◌≢◌}
use mathlib.Core.Path.{◌≡◌}
use Rattle.check_rounds.proofs.around.alone_quick.Given as goal

abbrev pub invariant-loop-left : goal.invariant-loop-left
invariant-loop-left l = Half l.m.emarks.now l.m.ne l.x × (face_at l.m.edges.now l.x ≡ face_at l.m.edges.now l.a) × Walk (next_at l.m.edges.now) (λ z. (z ≢ l.a) × (head_at l.m.edges.now z ≢ head_at l.m.edges.now l.a)) (next_at l.m.edges.now l.a) (2 * l.m.ne) l.left l.x
    × Half l.m.emarks.now l.m.ne l.y × (head_at l.m.edges.now l.y ≡ head_at l.m.edges.now l.a) × Walk (spin_at l.m.edges.now) (λ z. (z ≢ l.a) × (face_at l.m.edges.now z ≢ face_at l.m.edges.now l.a)) (spin_at l.m.edges.now l.a) (2 * l.m.ne) l.left l.y

abbrev pub decreases-loop-left : goal.decreases-loop-left
decreases-loop-left l = l.left
