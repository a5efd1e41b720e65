use Prim.Native.Nat.{◌+◌, ◌*◌}
use native.Mathlib.Omega.{arith}
use Rattle.mesh.specs.Words.{face_at, turn_at}
use Rattle.mesh.proofs.RoundLaws.{walk_turn}
use Rattle.mesh_walk.specs.Rounds.{left_of}
use Rattle.points_catmull.specs.Sums.{head_point, slot}
use Rattle.points_catmull.proofs.SumLaws.{round-short, at-turn, at-end}
use Rattle.points_catmull.proofs.CatmullLaws.{ring-none, ring-more, ring-count, faced}
use Rattle.points_catmull.proofs.cage.Pass.inner_ring.Goals as goal

pub new-k-items-requires : goal.new-k-items-requires
new-k-items-requires c = let h = c.args.self.now.cage.halves in walk_turn h.there h.prev_in _ c.requires.h_bound

pub loop-k-init : goal.loop-k-init
loop-k-init c = rw (c.zero-faces.ensures, c.zero.ensures) (ring-none _ _)

pub face_point-requires : goal.face_point-requires
face_point-requires c = let t = at-turn (left_of turn_at) c.into_iter-k-iterator.result c.loop-k.k-iterator c.next.new.self c.loop-k.yielded
    c.into_iter-k-iterator.ensures.into_iter_gives c.new-k-items.ensures.items c.loop-k.yielded_by c.next.ensures.steps
    (faced _ _ c.args.self.now.cage.halves _ c.requires.h_bound c.requires.inside) c.in-Some.is in
    record { h_bound = t.0.0; faced = t.0.1 }

pub head_in-requires-clause-h_bound : goal.head_in-requires-clause-h_bound
head_in-requires-clause-h_bound c = (at-turn (left_of turn_at) c.into_iter-k-iterator.result c.loop-k.k-iterator c.next.new.self c.loop-k.yielded
    c.into_iter-k-iterator.ensures.into_iter_gives c.new-k-items.ensures.items c.loop-k.yielded_by c.next.ensures.steps
    (faced _ _ c.args.self.now.cage.halves _ c.requires.h_bound c.requires.inside) c.in-Some.is).0.0

pub plus-heads-requires : goal.plus-heads-requires
plus-heads-requires c = let t = at-turn (left_of turn_at) c.into_iter-k-iterator.result c.loop-k.k-iterator c.next.new.self c.loop-k.yielded
    c.into_iter-k-iterator.ensures.into_iter_gives c.new-k-items.ensures.items c.loop-k.yielded_by c.next.ensures.steps
    (faced _ _ c.args.self.now.cage.halves _ c.requires.h_bound c.requires.inside) c.in-Some.is in
    let b = round-short c.args.h (turn_at c.args.self.now.cage.edges.now) (2 * c.args.self.now.cage.c.e) c.args.h in
    let n = ring-count (λ j. slot c.args.self.now.work.now (c.args.self.now.cage.c.v + c.args.self.now.cage.c.e) (face_at c.args.self.now.cage.edges.now j)) (head_point c.args.self.now.cage.edges.now c.args.self.now.cage.points.now) c.loop-k.yielded c.loop-k.invariant in
    omega (arith, c.args.self.now.cage.halves.few_e, t.1)

pub loop-k-preserved : goal.loop-k-preserved
loop-k-preserved c = ring-more (λ j. slot c.args.self.now.work.now (c.args.self.now.cage.c.v + c.args.self.now.cage.c.e) (face_at c.args.self.now.cage.edges.now j)) (head_point c.args.self.now.cage.edges.now c.args.self.now.cage.points.now)
    c.loop-k.yielded c.in-Some.k c.loop-k.invariant c.face_point.ensures c.head_in.ensures c.add-faces.ensures c.plus-heads.ensures

pub returns : goal.returns
returns c = let e = at-end (left_of turn_at) c.into_iter-k-iterator.result c.loop-k.k-iterator c.next.new.self c.loop-k.yielded
    c.into_iter-k-iterator.ensures.into_iter_gives c.new-k-items.ensures.items c.loop-k.yielded_by c.next.ensures.steps c.in-None.is in
    rw e at c.loop-k.invariant
