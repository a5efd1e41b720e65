use mathlib.Core.Path.{sym, ◌∙◌}
use Rattle.points_catmull.specs.Sums.{slot}
use native.Mathlib.Omega.{arith}
use Prim.Native.Nat.{◌*◌}
use Rattle.mesh.specs.Words.{turn_at}
use Rattle.points_catmull.proofs.SumLaws.{round-short}
use Rattle.points_catmull.proofs.CatmullLaws.{few-sum, out-lt, not-rim, vertex-still, vertex-alone, vertex-rim, vertex-inner}
use Rattle.points_catmull.proofs.cage.Vertices.point.Goals as goal

pub returns-then-not-update : goal.returns-then-not-update
returns-then-not-update c = vertex-still _ _ _ _ _ _ _ c.load_point-p.ensures c.if-not-update.true

pub returns-then-h : goal.returns-then-h
returns-then-h c = vertex-alone _ _ _ _ _ _ _ c.load_point-p.ensures c.if-not-update.false (sym c.out-h.ensures ∙ c.if-h.true) c.mean.ensures

pub rim-requires : goal.rim-requires
rim-requires c = let q = out-lt _ _ _ c.args.self.now.outs_in _ _ c.requires.v_lt_v c.out-h.ensures c.if-h.false in
    omega (arith, c.args.self.now.cage.halves.there)

pub rim_sum-s-requires : goal.rim_sum-s-requires
rim_sum-s-requires c = out-lt _ _ _ c.args.self.now.outs_in _ _ c.requires.v_lt_v c.out-h.ensures c.if-h.false

pub overflow_add-s : goal.overflow_add-s
overflow_add-s c =
    let n = few-sum (slot c.args.work.now c.args.self.now.cage.c.v) c.args.self.now.cage.edges.now _ c.load_point-p.result c.rim_sum-s.ensures in
    let b = round-short c.out-h.result (turn_at c.args.self.now.cage.edges.now) (2 * c.args.self.now.cage.c.e) c.out-h.result in
    record { fits = omega (arith, c.args.self.now.cage.halves.few_e) }

pub returns-then-rim : goal.returns-then-rim
returns-then-rim c = vertex-rim _ _ _ _ _ _ _ c.load_point-p.ensures _ c.out-h.ensures c.if-not-update.false c.if-h.false
    (sym c.rim.ensures ∙ c.if-rim.true) c.rim_sum-s.ensures c.mean-then-rim.ensures

pub inner_ring-r-requires : goal.inner_ring-r-requires
inner_ring-r-requires c = let pre = c.requires in record { h_bound = out-lt _ _ _ c.args.self.now.outs_in _ _ c.requires.v_lt_v c.out-h.ensures c.if-h.false; inside = not-rim _ _ _ c.args.self.now.outs_in _ _ pre.v_lt_v c.out-h.ensures c.if-h.false (sym c.rim.ensures ∙ c.if-rim.false) }

pub returns : goal.returns
returns c = vertex-inner _ _ _ _ _ _ _ c.load_point-p.ensures _ c.out-h.ensures c.if-not-update.false c.if-h.false
    (sym c.rim.ensures ∙ c.if-rim.false) c.inner_ring-r.ensures c.cc_inner.ensures
