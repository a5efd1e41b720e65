use Prim.Native.Nat.{◌*◌}
use Rattle.laws_mesh.specs.Reach.{Reach}
use Rattle.check_rules.specs.Place.{Half}
use Rattle.mesh_walk.specs.Rounds.{left_of}
use Rattle.scope.specs.Lists.{round}
use Rattle.check_rounds.proofs.AskLaws.{Above}
use Rattle.check_rounds.proofs.around.least.Given as goal

abbrev pub invariant-loop-x : goal.invariant-loop-x
invariant-loop-x g l = Above (round l.a (g.S.Step.at l.m.edges.now) (2 * l.m.ne) l.a) (left_of g.S.Step.at l.x-iterator) l.a × Half l.m.emarks.now l.m.ne l.y × Reach (g.S.Step.at l.m.edges.now) l.a l.y
