use mathlib.Core.Path.{◌∙◌, sym}
use Rattle.links_edits.proofs.CutLaws.{painted-on, have-on}
use Rattle.links_edits.proofs.cut.paint.Goals as goal

pub loop-h-preserved : goal.loop-h-preserved
loop-h-preserved c =
    let i = c.loop-h.invariant in
    let l = c.loop-h-test.true in
    record {
      all_have = rw c.set_face.ensures (have-on _ c.args.g _ _ l i.all_have).1;
      whole = rw c.set_face.ensures (sym (painted-on _ _ _ _ l) ∙ i.whole);
    }
