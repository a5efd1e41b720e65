use Rattle.laws_check.proofs.Tells.{denied, told}
use Rattle.laws_mesh.proofs.Cycle.{reach-back, reach-trans}
use Rattle.laws_mesh.specs.Reach.{here}
use Rattle.mesh_walk.specs.Rounds.{left_of}
use Rattle.scope.specs.Lists.{round}
use Rattle.check_rules.proofs.HalfLaws.{has-partner}
use Rattle.check_rounds.proofs.AskLaws.{Above, above_first, above-on, above_start, least-round, perm-walk, round-reach}
use mathlib.Core.List.{List}
use mathlib.Core.Path.{◌≡◌, subst⁻¹}
use Prim.Native.Nat.{ℕ, ◌*◌}
use native.Mathlib.Omega.{arith}
use Rattle.check_rounds.proofs.around.least.Goals as goal
use Rattle.check_rounds.proofs.around.least.Goals.{then-x-a-via-then-x-a, then-x-a-via-else-x-a+then-y-a}

pub new-x-items-requires : goal.new-x-items-requires
new-x-items-requires g c = let m = c.args.m.now in
    perm-walk m.emarks.now (g.met.S.Reversible.undoes m.edges.now m.emarks.now m.ne m.sewn) m.fit.room c.requires

pub loop-x-init : goal.loop-x-init
loop-x-init g c = let m = c.args.m.now in
    let whole = round c.args.a (g.S.Step.at m.edges.now) (2 * m.ne) c.args.a in
    let e : left_of g.S.Step.at c.into_iter-x-iterator.result ≡ whole = cc in
    (subst⁻¹ (λ (l : List ℕ). Above whole l c.args.a) e above_start, c.requires, here)

pub returns-then-x-a : goal.returns-then-x-a
returns-then-x-a g c = let m = c.args.m.now in
    let u = g.met.S.Reversible.undoes m.edges.now m.emarks.now m.ne m.sewn in
    let i = c.loop-x.invariant in
    denied (λ p. elim c.then-x-a.branch [
      | then-x-a-via-then-x-a w ↦ let q = p c.in-Some.x (round-reach u c.requires (above_first i.0 c.in-Some.ensures.steps)) in omega (arith, q, w.if-x-a.true)
      | then-x-a-via-else-x-a+then-y-a w ↦ let q = p c.loop-x.y i.2 in omega (arith, q, w.if-y-a.true)
    ])

pub step_back-y-requires-clause-has_partner : goal.step_back-y-requires-clause-has_partner
step_back-y-requires-clause-has_partner g c = let m = c.args.m.now in has-partner m.edges.now m.ne c.loop-x.y m.fit.room c.loop-x.invariant.1.0

pub loop-x-preserved : goal.loop-x-preserved
loop-x-preserved g c = let m = c.args.m.now in
    let u = g.met.S.Reversible.undoes m.edges.now m.emarks.now m.ne m.sewn in
    let (w, h, r) = c.loop-x.invariant in
    (above-on w c.in-Some.ensures.steps (omega (arith, c.if-x-a.false)), rw c.step_back-y.ensures (u.back c.loop-x.y h), rw c.step_back-y.ensures (reach-trans r (reach-back u h)))

pub returns : goal.returns
returns g c = let m = c.args.m.now in
    told (least-round (g.met.S.Reversible.undoes m.edges.now m.emarks.now m.ne m.sewn) c.requires c.loop-x.invariant.0 c.in-None.ensures.steps.0)
