-- Two Catmull-Clark passes over the cube: the law's premises hold after the first. Assumes nothing.
use mathlib.Core.Path.{◌≡◌, ap, ◌∙◌}
use native.Mathlib.Omega.{arith}
use Rattle.scope.specs.Passes.{catmull_pass}
use Rattle.scope.specs.Tally.{tally_of, catmull_tally}
use Rattle.laws_mesh.specs.Of.{Good}
use Rattle.laws_catmull.proofs.Pass.{catmull-pass}
use Rattle.laws_examples.specs.Meshes.{cube}
use Rattle.laws_examples.proofs.Passes.{within, catmull-cube}

pub catmull-cube-twice : Good (catmull_pass (catmull_pass cube)) × (tally_of (catmull_pass (catmull_pass cube)) ≡ record { v = 98; e = 192; f = 96; s = 384; b = 0 })
unfolding catmull_tally
catmull-cube-twice =
    let (g, u, q) = catmull-cube in
    let t = ap catmull_tally u in
    let (a, b, c) = catmull-pass (catmull_pass cube) g (within t (omega arith) (omega arith) (omega arith)) in
    (a, b ∙ t)
