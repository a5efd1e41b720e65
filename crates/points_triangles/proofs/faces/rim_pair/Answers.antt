use mathlib.Core.Path.{◌∙◌}
use native.Mathlib.Omega.{arith}
use Rattle.mesh.proofs.PartnerLaws.{partner-lt}
use Rattle.points_triangles.specs.Faces.{pair_on}
use Rattle.points_triangles.proofs.faces.rim_pair.Goals as goal

pub next-requires : goal.next-requires
next-requires c = let b = partner-lt _ c.args.cage.now.c.e c.requires in
    rw c.partner-r.ensures (omega (arith, c.args.cage.now.halves.there))

pub head_point-p1-requires : goal.head_point-p1-requires
head_point-p1-requires c = rw (c.next.ensures, c.partner-r.ensures) (c.args.cage.now.halves.next_in _ (partner-lt _ c.args.cage.now.c.e c.requires))

pub head_point-p2-requires : goal.head_point-p2-requires
head_point-p2-requires c = rw c.partner-r.ensures (partner-lt _ c.args.cage.now.c.e c.requires)

pub tail_point-p3-requires : goal.tail_point-p3-requires
tail_point-p3-requires c = rw c.partner-r.ensures (partner-lt _ c.args.cage.now.c.e c.requires)

pub prev-requires : goal.prev-requires
prev-requires c = let b = partner-lt _ c.args.cage.now.c.e c.requires in
    rw c.partner-r.ensures (omega (arith, c.args.cage.now.halves.there))

pub tail_point-p4-requires : goal.tail_point-p4-requires
tail_point-p4-requires c = rw (c.prev.ensures, c.partner-r.ensures) (c.args.cage.now.halves.prev_in _ (partner-lt _ c.args.cage.now.c.e c.requires))

pub returns : goal.returns
unfolding pair_on
returns c = c.sqrt_pair.ensures
    ∙ rw (
      c.head_point-p1.ensures,
      c.next.ensures,
      c.head_point-p2.ensures,
      c.tail_point-p3.ensures,
      c.tail_point-p4.ensures,
      c.prev.ensures,
      c.partner-r.ensures,
    )
