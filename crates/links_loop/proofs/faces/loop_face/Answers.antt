use Prim.Native.Nat.{◌*◌}
use mathlib.Core.Path.{◌≡◌, sym, ◌∙◌}
use lib.Dec.{eqb}
use Rattle.scope.specs.Lists.{if}
use Rattle.laws_mesh.proofs.Cycle.{if-eq, if-ne}
use Rattle.links_loop.proofs.FaceLaws.{steps-ok, six-ok, face-edges, face-faces, face-counts}
use Rattle.links_loop.proofs.faces.loop_face.Goals as goal
use Rattle.links_loop.proofs.faces.loop_face.Goals.{then-s-x, else-s-x}

pub six_from-x-requires : goal.six_from-x-requires
six_from-x-requires c = steps-ok c.args.old c.requires c.first_old.ensures

pub cut_corners-requires : goal.cut_corners-requires
cut_corners-requires c = record { six_ok = six-ok c.args.old c.requires c.first_old.ensures c.six_from-x.ensures; g_bound = c.requires.few_f }

pub returns : goal.returns
returns c =
    let o = c.args.old in
    let r = c.requires in
    let p = c.first_old.ensures in
    let q = c.six_from-x.ensures in
    let s = c.start-s.result in
    let x = c.six_from-x.result in
    let from : c.if-s-x.from ≡ if (eqb s x.h0) s (2 * c.args.c.e) =
    elim c.if-s-x.branch [ then-s-x w ↦ w.from-is ∙ sym (if-eq s x.h0 _ _ w.if-s-x.true) | else-s-x w ↦ w.from-is ∙ sym (if-ne s x.h0 _ _ w.if-s-x.false) ] in
    record { edges_after = face-edges o r p q c.cut_corners.ensures; faces_after = face-faces o r p q c.start-s.ensures from c.name_faces.ensures; value = face-counts o r }
