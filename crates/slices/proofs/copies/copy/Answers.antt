use mathlib.Core.Path.{refl, ap, ◌∙◌}
use native.Mathlib.Omega.{arith}
use Rattle.std.proofs.Common.{slice_set}
use Rattle.scope.specs.Lists.{over}
use Rattle.slices.proofs.CopyLaws.{copy-on}
use Rattle.slices.proofs.copies.copy.Goals as goal

pub loop-i-init : goal.loop-i-init
unfolding over
loop-i-init g c = refl

pub loop-i-preserved : goal.loop-i-preserved
loop-i-preserved g c =
    let r = c.requires in
    let t = c.loop-i-test.true in
    let l = c.loop-i.auto.dst in
    ap (slice_set c.loop-i.dst c.loop-i.i) c.index-src-i.is ∙ copy-on _ _ _ _ c.index-src-i.result c.loop-i.invariant (omega arith) (omega arith)
