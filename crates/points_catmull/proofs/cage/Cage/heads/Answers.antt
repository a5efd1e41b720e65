use Prim.Native.Nat.{◌*◌}
use native.Mathlib.Omega.{arith}
use Rattle.mesh_walk.specs.Rounds.{left_of}
use Rattle.points_catmull.specs.Sums.{head_point}
use Rattle.points_catmull.proofs.SumLaws.{walked, round-short, at-turn, at-end, summed-none, summed-more, summed-count}
use Rattle.points_catmull.proofs.cage.Cage.heads.Goals as goal

pub loop-k-init : goal.loop-k-init
loop-k-init g c = rw c.zero.ensures (summed-none _)

pub head_point-requires : goal.head_point-requires
head_point-requires g c =
    (at-turn (left_of g.S.Step.at) c.into_iter-k-iterator.result c.loop-k.k-iterator c.next.new.self c.loop-k.yielded
    c.into_iter-k-iterator.ensures.into_iter_gives c.new-k-items.ensures.items c.loop-k.yielded_by c.next.ensures.steps (walked _ _ _ _ c.requires) c.in-Some.is).0

pub plus-s-requires : goal.plus-s-requires
plus-s-requires g c =
    let t = (at-turn (left_of g.S.Step.at) c.into_iter-k-iterator.result c.loop-k.k-iterator c.next.new.self c.loop-k.yielded
    c.into_iter-k-iterator.ensures.into_iter_gives c.new-k-items.ensures.items c.loop-k.yielded_by c.next.ensures.steps (walked _ _ _ _ c.requires) c.in-Some.is).1 in
    let b = round-short c.args.h (g.S.Step.at c.args.self.now.edges.now) (2 * c.args.self.now.c.e) c.args.h in
    let n = summed-count _ (head_point c.args.self.now.edges.now c.args.self.now.points.now) c.loop-k.yielded c.loop-k.invariant in
    omega (arith, c.args.self.now.halves.few_e)

pub loop-k-preserved : goal.loop-k-preserved
loop-k-preserved g c = summed-more _ _ _ _ c.loop-k.invariant c.head_point.ensures c.plus-s.ensures

pub returns : goal.returns
returns g c = let e = at-end (left_of g.S.Step.at) c.into_iter-k-iterator.result c.loop-k.k-iterator c.next.new.self c.loop-k.yielded
    c.into_iter-k-iterator.ensures.into_iter_gives c.new-k-items.ensures.items c.loop-k.yielded_by c.next.ensures.steps c.in-None.is in
    rw e at c.loop-k.invariant
