use Prim.Native.Nat.{◌+◌, ◌*◌}
use mathlib.Core.Path.{◌≡◌, sym, ◌∙◌}
use mathlib.Core.List.{◌∷◌}
use native.Mathlib.Omega.{arith}
use borrow.Author.Tests.{eq-eqb}
use Rattle.scope.specs.Lists.{if, has}
use Rattle.mesh.proofs.RoundLaws.{has_here, has-past}
use Rattle.links_edits.proofs.CutLaws.{gap-in, cut-edges, cut-in-faces, have-all, has-any}
use Rattle.links_edits.proofs.cut.cut_part.Goals as goal
use Rattle.links_edits.proofs.cut.cut_part.Goals.{then-s-h, else-s-h, then-gone, else-gone}

pub divide-requires : goal.divide-requires
divide-requires c = rw c.look_across-x.ensures (gap-in c.requires)

pub paint-requires : goal.paint-requires
paint-requires c = have-all _ (2 * c.args.ne + 2) _ (let r = c.requires.room in omega arith) c.requires.part_low

pub returns-clause-edges_after : goal.returns-clause-edges_after
returns-clause-edges_after c = rw (c.paint.ensures, c.set_face.ensures, c.divide.ensures, c.look_across-x.ensures) (cut-edges c.requires)

pub returns-clause-faces_after : goal.returns-clause-faces_after
returns-clause-faces_after c =
    let s = c.start-s.result in
    let h = 2 * c.args.ne in
    let a : c.if-s-h.gone ≡ has s ((h + 1) ∷ c.args.part.now) =
    elim c.if-s-h.branch [
      | then-s-h w ↦ w.gone-is ∙ eq-eqb _ _ w.if-s-h.true ∙ sym (has_here _ _ _ (sym w.if-s-h.true))
      | else-s-h w ↦ w.gone-is ∙ w.contains-gone.ensures.value ∙ has-any _ _ ∙ sym (has-past _ _ _ (λ q. w.if-s-h.false (sym q)))
    ]
    in
    let b : c.if-gone.restart ≡ if c.if-s-h.gone h s = elim c.if-gone.branch [ then-gone w ↦ rw w.if-gone.true w.restart-is | else-gone w ↦ rw w.if-gone.false w.restart-is ] in
    rw (c.restart.ensures, b, a, c.start-s.ensures, c.look_across-x.ensures) (cut-in-faces c.requires)
