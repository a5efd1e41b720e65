use native.Mathlib.Omega.{arith}
use mathlib.Core.Path.{◌≡◌, ap}
use mathlib.Core.List.{List, ◌∷◌}
use lib.ListN.{length}
use Prim.Native.Nat.{ℕ}
use Rattle.scope.specs.Lists.{round}
use Rattle.mesh_walk.proofs.Rounds.{meets-here, meets-on, round-out, round-last, round-next}
use Rattle.mesh_walk.proofs.round.RoundIterator.next.Goals as goal
use Rattle.mesh_walk.proofs.round.RoundIterator.next.Goals.{then-y-self, else-y-self}

pub returns-then-self-eq0-clause-steps : goal.returns-then-self-eq0-clause-steps
returns-then-self-eq0-clause-steps g c = let e = round-out _ _ _ _ c.if-self-eq0.true in (e, e)

pub step-y-requires : goal.step-y-requires
step-y-requires g c = meets-here c.requires

pub returns : goal.returns
returns g c =
    let s = c.args.self.now in
    let step = g.S.Step.at s.edges.now in
    let e : round s.first step s.left s.at ≡ s.at ∷ round s.first step c.if-y-self.self c.step-y.result = elim c.if-y-self.branch [
      | then-y-self w ↦ round-last s.first step c.if-self-eq0.false c.step-y.ensures w.if-y-self.true w.self-is
      | else-y-self w ↦ round-next s.first step c.if-self-eq0.false c.step-y.ensures w.if-y-self.false w.self-is
    ] in
    let m = meets-on c.step-y.ensures c.requires in
    let l = ap {A = List ℕ} {B = ℕ} (λ l. length l) e in
    record { steps = e; goes = record { on = λ f. (m, f, omega arith); keeps = m; rests = λ f. tt } }
