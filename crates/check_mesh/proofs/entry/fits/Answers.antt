use mathlib.Core.Path.{sym, ◌∙◌}
use native.Mathlib.Omega.{arith}
use Rattle.laws_check.proofs.Tells.{denied, is-not, is-so, tells-map}
use Rattle.mesh.specs.Given.{lists}
use Rattle.check_mesh.specs.Stages.{Fits}
use Rattle.check_mesh.proofs.EntryLaws.{t-fits, tells-same}
use Rattle.check_mesh.proofs.entry.fits.Goals as goal
use Rattle.check_mesh.proofs.entry.fits.Goals.{then-fits_in, else-fits_in}

pub returns-then-fits_in-2 : goal.returns-then-fits_in-2
returns-then-fits_in-2 c = elim c.if-fits_in.branch [
  | then-fits_in w ↦
      let v = is-so c.fits_in.ensures w.if-fits_in.true in
      let h = is-so w.fits_in-then-fits_in.ensures (sym w.value-is ∙ c.if-fits_in-2.true) in
      tells-same (tells-map c.fits_in-then-fits_in-2.ensures
      (λ f. record {
        vertices = record { few = v.0; room = v.1; marks = v.2 };
        halfedges = record { few = h.0; room = (let q = h.1 in omega arith); marks = h.2 };
        sides = record { few = f.0; room = f.1; marks = f.2 };
      })
      (λ p. (p.sides.few, p.sides.room, p.sides.marks))) (t-fits c.args.c (lists c.args.s))
  | else-fits_in w ↦ cc
]

pub returns-else-fits_in-2 : goal.returns-else-fits_in-2
returns-else-fits_in-2 c = rw c.if-fits_in-2.false (tells-same (denied (λ (p : Fits c.args.c (lists c.args.s)). elim c.if-fits_in.branch [
  | then-fits_in w ↦ is-not w.fits_in-then-fits_in.ensures (sym w.value-is ∙ c.if-fits_in-2.false) (p.halfedges.few, (let q = p.halfedges.room in omega arith), p.halfedges.marks)
  | else-fits_in w ↦ is-not c.fits_in.ensures w.if-fits_in.false (p.vertices.few, p.vertices.room, p.vertices.marks)
])) (t-fits c.args.c (lists c.args.s)))
