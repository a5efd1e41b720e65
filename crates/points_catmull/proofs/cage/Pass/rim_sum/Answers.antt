use Prim.Native.Nat.{◌*◌}
use native.Mathlib.Omega.{arith}
use Rattle.mesh.specs.Words.{turn_at}
use Rattle.mesh.proofs.RoundLaws.{walk_turn}
use Rattle.mesh_walk.specs.Rounds.{left_of}
use Rattle.scope.specs.Lists.{only}
use Rattle.points_catmull.specs.Sums.{slot}
use Rattle.points_catmull.proofs.SumLaws.{round-short, at-turn, at-end, summed-none}
use Rattle.points_catmull.proofs.CatmullLaws.{joins-rim, few-sum, met}
use Rattle.points_catmull.proofs.cage.Pass.rim_sum.Goals as goal

pub new-k-items-requires : goal.new-k-items-requires
new-k-items-requires c = let h = c.args.self.now.cage.halves in walk_turn h.there h.prev_in _ c.requires

pub loop-k-init : goal.loop-k-init
unfolding only
loop-k-init c = summed-none _

pub join_rim-s-requires : goal.join_rim-s-requires
join_rim-s-requires c =
    let t = at-turn (left_of turn_at) c.into_iter-k-iterator.result c.loop-k.k-iterator c.next.new.self c.loop-k.yielded
    c.into_iter-k-iterator.ensures.into_iter_gives c.new-k-items.ensures.items c.loop-k.yielded_by c.next.ensures.steps
    (met _ _ c.args.self.now.cage.halves _ c.requires) c.in-Some.is in
    let b = round-short c.args.h (turn_at c.args.self.now.cage.edges.now) (2 * c.args.self.now.cage.c.e) c.args.h in
    let n = few-sum (slot c.args.self.now.work.now c.args.self.now.cage.c.v) c.args.self.now.cage.edges.now c.loop-k.yielded c.args.p c.loop-k.invariant in
    record { h_bound = t.0; count_bound = omega (arith, c.args.self.now.cage.halves.few_e, t.1) }

pub loop-k-preserved : goal.loop-k-preserved
loop-k-preserved c = joins-rim (slot c.args.self.now.work.now c.args.self.now.cage.c.v) c.args.self.now.cage.edges.now c.args.p c.loop-k.yielded c.in-Some.k c.loop-k.invariant c.join_rim-s.ensures

pub returns : goal.returns
returns c = let e = at-end (left_of turn_at) c.into_iter-k-iterator.result c.loop-k.k-iterator c.next.new.self c.loop-k.yielded
    c.into_iter-k-iterator.ensures.into_iter_gives c.new-k-items.ensures.items c.loop-k.yielded_by c.next.ensures.steps c.in-None.is in
    rw e at c.loop-k.invariant
