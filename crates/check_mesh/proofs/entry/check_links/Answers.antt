use Prim.Native.Nat.{◌*◌}
use Rattle.check_mesh.proofs.EntryLaws.{edges-used, fitting, items-used, links-fit, links-short, refused}
use Rattle.std.proofs.Common.{rules}
use Rattle.scope.specs.Slices.{links_of, marks_of, used}
use lib.Seq.{length-take-le}
use mathlib.Core.Path.{sym}
use native.Mathlib.Omega.{arith}
use Rattle.check_mesh.proofs.entry.check_links.Goals as goal

pub returns-then-not-fits : goal.returns-then-not-fits
returns-then-not-fits c = links-short c.args.c _ c.fits.ensures c.if-not-fits.true

pub slice_bounds-judge-end : goal.slice_bounds-judge-end
slice_bounds-judge-end c = sym (length-take-le c.args.c.v c.args.s.outs.now (fitting c.args.c _ c.fits.ensures c.if-not-fits.false).vertices.room)

pub overflow_mul-c : goal.overflow_mul-c
overflow_mul-c c = let q = (fitting c.args.c _ c.fits.ensures c.if-not-fits.false).halfedges.few in omega arith

pub slice_bounds-judge-end-2 : goal.slice_bounds-judge-end-2
slice_bounds-judge-end-2 c = sym (length-take-le (8 * c.args.c.e) c.args.s.edges.now (fitting c.args.c _ c.fits.ensures c.if-not-fits.false).halfedges.room)

pub slice_bounds-judge-end-3 : goal.slice_bounds-judge-end-3
slice_bounds-judge-end-3 c = sym (length-take-le c.args.c.f c.args.s.faces.now (fitting c.args.c _ c.fits.ensures c.if-not-fits.false).sides.room)

pub slice_bounds-judge-end-4 : goal.slice_bounds-judge-end-4
slice_bounds-judge-end-4 c = sym (length-take-le c.args.c.v c.args.s.vmarks.now (fitting c.args.c _ c.fits.ensures c.if-not-fits.false).vertices.marks)

pub slice_bounds-judge-end-5 : goal.slice_bounds-judge-end-5
slice_bounds-judge-end-5 c = sym (length-take-le c.args.c.e c.args.s.emarks.now (fitting c.args.c _ c.fits.ensures c.if-not-fits.false).halfedges.marks)

pub slice_bounds-judge-end-6 : goal.slice_bounds-judge-end-6
slice_bounds-judge-end-6 c = sym (length-take-le c.args.c.f c.args.s.fmarks.now (fitting c.args.c _ c.fits.ensures c.if-not-fits.false).sides.marks)

pub overflow_cast-c : goal.overflow_cast-c
overflow_cast-c c = let q = (fitting c.args.c _ c.fits.ensures c.if-not-fits.false).vertices.few in omega arith

pub overflow_cast-c-2 : goal.overflow_cast-c-2
overflow_cast-c-2 c = let q = (fitting c.args.c _ c.fits.ensures c.if-not-fits.false).halfedges.few in omega arith

pub overflow_cast-c-3 : goal.overflow_cast-c-3
overflow_cast-c-3 c = let q = (fitting c.args.c _ c.fits.ensures c.if-not-fits.false).sides.few in omega arith

pub invariant_of-judge : goal.invariant_of-judge
invariant_of-judge c = let t = fitting c.args.c _ c.fits.ensures c.if-not-fits.false in record { vertices = items-used t.vertices; halfedges = edges-used t.halfedges; sides = items-used t.sides }

pub returns : goal.returns
unfolding links_of marks_of used
returns c = links-fit c.args.c _ c.fits.ensures c.if-not-fits.false (refused _ c.judge.ensures (search rules))
